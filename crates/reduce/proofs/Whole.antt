-- What was read decides the report of the whole input: it is all of it, or already too long for a bundle.
use Rattle.std.proofs.Common.{◌≡◌, ℕ, ◌<◌, ◌≤◌, List, [], ◌++◌, length, take, Option, None, Some, Result, Ok, Err, is_ok, OnOk, OnErr, sym, ap, ◌∙◌, subst, arith, append-nil, length-append, length-take-le}
use mathlib.Core.Logic.{◌⊎◌, inl, inr}
use borrow.Author.Tests.{lt-ltb, le-ltb}
use Rattle.std.proofs.lemmas.Bool.{cases_lt}
use Rattle.std.specs.Prelude.{IfSome}
use Rattle.std.specs.Io.KnownBytes.{Consumes, IsAtEnd}
use Rattle.std.specs.declared.io.Error.{Error}
use Rattle.stream.specs.Stream.{Within, ReadFull}
use Rattle.refusals.specs.declared.Refusal.TheVariants.{BundleSize}
use Rattle.bundle.specs.Bundle.{bundle_order, bundle_checks, both_kinds, entries_of, meant_by, meaning}
use Rattle.desk.specs.Desk.{refused_text}
use Rattle.reduce.specs.Report.{meaning_text, report}

long_refused : (b : List ℕ) → 65535 < length b → bundle_checks both_kinds b ≡ Err BundleSize
unfolding bundle_order
long_refused b h = rw (le-ltb (length b) 2 (omega arith), lt-ltb 65535 (length b) h)

-- THEOREM: of what is too long for a bundle, the report says so and nothing else
pub report_long : (b : List ℕ) → 65535 < length b → report b ≡ refused_text BundleSize
unfolding report meaning meaning_text
report_long b h = ap (λ o. meaning_text (meant_by o (entries_of b))) (long_refused b h)

-- the report of the front that was read is that of the input
same_report : (bytes front rest : List ℕ) → bytes ≡ front ++ rest → (rest ≡ []) ⊎ (65535 < length front) → report front ≡ report bytes
same_report bytes front rest e (inl none) = ap report (sym (e ∙ ap (λ l. front ++ l) none ∙ append-nil front))
same_report bytes front rest e (inr long) =
    report_long front long ∙ sym (report_long bytes (omega (arith, ap length e, length-append front rest)))

-- what holds of the report of what was read into a buffer of 65,536 bytes holds of the report of the whole input
of_front : (P : List ℕ → Type 0) (old new : Option (List ℕ)) (n len : ℕ) (buffer : List ℕ) → length buffer ≡ len → len ≡ 65536 → n ≤ len
    → Consumes old new (take n buffer) × (n < length buffer → IsAtEnd new) → P (report (take n buffer)) → IfSome old (λ bytes. P (report bytes))
of_front P None new n len buffer same size fits came put = tt
of_front P (Some bytes) None n len buffer same size fits came put = absurd came.0
of_front P (Some bytes) (Some rest) n len buffer same size fits came put =
    subst P (same_report bytes (take n buffer) rest came.0 (all_or_long (cases_lt n (length buffer)))) put
  where
    all_or_long : (n < length buffer) ⊎ (length buffer ≤ n) → (rest ≡ []) ⊎ (65535 < length (take n buffer))
    all_or_long (inl few) = inl (came.1 few)
    all_or_long (inr full) = inr (omega (arith, size, same, length-take-le n buffer (omega (arith, same))))

pub of_whole : (P : List ℕ → Type 0) (old new : Option (List ℕ)) {r : Result ℕ Error} {n : ℕ} → r ≡ Ok n → (len : ℕ) (buffer : List ℕ) → length buffer ≡ len → len ≡ 65536
    → Within len r → ReadFull old new r buffer → P (report (take n buffer)) → IfSome old (λ bytes. P (report bytes))
of_whole P old new e len buffer same size within bytes put =
    of_front P old new _ len buffer same size (subst (Within len) e within) (subst (λ r. ReadFull old new r buffer) e bytes) put

-- what a success or a failure says, it says with another error too
pub still_ok : {A E D P Q : Type 0} (r : Result A E) (s : Result A D) → is_ok s ≡ is_ok r → (P → Q) → OnOk r P → OnOk s Q
still_ok (Ok x) (Ok y) e f p = f p
still_ok (Err x) (Ok y) e f p = absurd (cc)
still_ok r (Err y) e f p = tt

pub still_failed : {A E D P Q : Type 0} (r : Result A E) (s : Result A D) (d : D) → is_ok s ≡ is_ok r → s ≡ Err d → (P → Q) → OnErr r P → Q
still_failed (Ok x) s d e broken f p = absurd (cc (ap is_ok broken))
still_failed (Err x) s d e broken f p = f p
