-- What each failed try keeps, all of them keep.
use Rattle.std.proofs.Common.{List}
use Rattle.std.specs.List.{FoldsTo}
use Rattle.std.proofs.lemmas.Fn.{chained_keeps}

pub kept_over : {A P : Type 0} (R : P → A → P → Type 0) (K : P → P → Type 0) (none : (p : P) → K p p) (more : (p q : P) (x : A) (v : P) → K p q → R q x v → K p v)
    → (xs : List A) (p q : P) → FoldsTo R p xs q → K p q
kept_over R K none more xs p q f = chained_keeps R (λ ys. K p) (λ ys u x v k r. more p u x v k r) xs p q (none p) f
