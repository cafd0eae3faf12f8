-- The loops over the entries given: each definition on the lists that are left, one entry after the other.
use mathlib.Core.Path.{◌≡◌, refl, sym, ap, ap₂, ◌∙◌, subst}
use mathlib.Core.Bool.{Bool, true, false, ◌&&◌}
use mathlib.Core.List.{List, [], ◌∷◌, ◌++◌}
use mathlib.Core.Logic.{◌⊎◌, inl, inr}
use Prim.Native.Nat.{ℕ, ◌+◌, ◌-◌, ◌*◌, ◌≤◌}
use native.Mathlib.Nat.{mul-le-mul_right}
use native.Mathlib.Omega.{arith}
use lib.ListN.{length, take, drop, length-drop, drop_of_length-le}
use lib.Seq.{length-take-le}
use denote.Ref.{Bor}
use Rattle.std.specs.Prelude.{Option, None, Some, Ok, Err, sum_by, zip}
use Rattle.std.specs.declared.iter.Zip.{Zip}
use Rattle.std.specs.declared.slice.Iter.{Iter}
use Rattle.std.specs.Iterator.Adapters.{zip_first, zip_second}
use Rattle.std.proofs.iter.Yields.{fronts}
use Rattle.std.proofs.lemmas.Iterator.{zips}
use Rattle.std.proofs.lemmas.Slice.Zip.{either_empty_from_Zip}
use Rattle.std.proofs.lemmas.List.{nil_from_length}
use Rattle.std.proofs.lemmas.List.Sums.{sum_by-cons}
use Rattle.words.specs.Words.{words_of, Fit, rows_of, narrow, holds_rows}
use Rattle.words.proofs.Value.{fit_drop}
use Rattle.words.proofs.Rows.{rows_take}
use Rattle.words.proofs.Flat.{flat_rows}
use Rattle.words.proofs.Padding.{holds_narrow}
use Rattle.wire.specs.Kinds.{bytes_of_words}
use Rattle.wire.proofs.Orders.{length_words_bytes}
use Rattle.refusals.specs.declared.Refusal.{Refusal}
use Rattle.refusals.specs.Outcome.{Outcome, ◌and_then◌}
use Rattle.refusals.specs.Checks.{Sized}
use Rattle.refusals.proofs.Chain.{Passes, then_done}
use Rattle.bundle.specs.Bundle.{Entry, body_words, bad_shape}
use Rattle.bundle.proofs.Bodies.{body_same}
use Rattle.bundle.proofs.Passing.{shaped}
use Rattle.pack.specs.Encode.{head_of, contents_of, body_of, bodies_of}
use Rattle.pack.specs.Writing.{given, shapes_checks, all_words, all_narrow}
use Rattle.pack.specs.Steps.{splice, any_kind, first_left, second_left, third_left, Checked}
use Rattle.pack.proofs.Lengths.{length_head}
use Rattle.pack.proofs.Splices.{splice_none, splice_append}

pub body_small : (r w : ℕ) → r ≤ 65535 → w ≤ 1024 → r * w ≤ 67107840
body_small r w hr hw = omega (arith, mul-le-mul_right w hr)

-- an entry whose words begin at word a of those given
pub record Met (ws : List ℕ) (a r c : ℕ) : Type 0 where
  pub shape : Sized 512 r c
  pub inside : a + body_words r c ≤ length ws

module _ (ws : List ℕ) (a r c : ℕ) {w : ℕ} (h : a + body_words r c ≤ length ws) (ew : w ≡ words_of c) where
  pub body_fits : a + r * w ≤ length ws
  body_fits = omega (arith, body_same r c ew)

  pub part_holds : holds_rows r c (take ((a + r * w) - a) (drop a ws)) ≡ narrow c (rows_of (words_of c) r (drop a ws))
  part_holds =
      let z : (a + r * w) - a ≡ r * w = omega arith in
      let n : ℕ = r * words_of c in
      let e : r * w ≡ n = ap (λ (x : ℕ). r * x) ew in
      let l : n ≤ length (drop a ws) = omega (arith, body_fits, length-drop a ws, e) in
      ap (λ (x : ℕ). holds_rows r c (take x (drop a ws))) (z ∙ e)
      ∙ sym (holds_narrow r c (take n (drop a ws)) (omega (arith, length-take-le n (drop a ws) l)))
      ∙ ap (narrow c) (rows_take (words_of c) r (drop a ws))

-- ---- three lists read together: ks, rs and cs are left before a turn, ks', rs' and cs' behind it

abbrev pub Turn : {A B C : Type 0} → A → B → C → List A → List B → List C → List A → List B → List C → Type 0
Turn k r c ks rs cs ks' rs' cs' = ((ks ≡ k ∷ ks') × (rs ≡ r ∷ rs')) × (cs ≡ c ∷ cs')

abbrev pub Ended : {A B C : Type 0} → List A → List B → List C → Type 0
Ended ks rs cs = ((ks ≡ []) ⊎ (rs ≡ [])) ⊎ (cs ≡ [])

module _ {A B C : Type 0} (s t : Zip (Zip (Iter A) (Iter B)) (Iter C)) (o : Option ((Bor A × Bor B) × Bor C)) where
  pub turn_of : (p : (Bor A × Bor B) × Bor C) → o ≡ Some p → zips (zips fronts fronts) fronts s o t
      → Turn p.0.0.now p.0.1.now p.1.now (first_left s) (second_left s) (third_left s) (first_left t) (second_left t) (third_left t)
  turn_of p e h = subst (λ x. zips (zips fronts fronts) fronts s x t) e h

  pub end_of : o ≡ None → zips (zips fronts fronts) fronts s o t → Ended (first_left s) (second_left s) (third_left s)
  end_of e h = by (subst (λ x. zips (zips fronts fronts) fronts s x t) e h)
    where
      by : ((u : Zip (Iter A) (Iter B)) × zips fronts fronts (zip_first s) None u) ⊎ ((u : Iter C) × fronts (zip_second s) None u) → Ended (first_left s) (second_left s) (third_left s)
      by (inl a) = inl (either_empty_from_Zip (zip_first s) a.0 None refl a.1)
      by (inr b) = inr (nil_from_length _ b.1.0)

-- ---- kinds and shapes

module _ (rule : ℕ → Outcome) {ks rs cs ks' rs' cs' : List ℕ} {k r c : ℕ} (t : Turn k r c ks rs cs ks' rs' cs') {v o : Outcome}
    (e : v ≡ shapes_checks rule ks rs cs) (eo : o ≡ rule k and_then bad_shape r c) where
  whole : v ≡ o and_then shapes_checks rule ks' rs' cs'
  unfolding shapes_checks
  whole = cc

  pub shapes_turn : o ≡ Ok tt → v ≡ shapes_checks rule ks' rs' cs'
  shapes_turn z = whole ∙ ap (λ (x : Outcome). x and_then shapes_checks rule ks' rs' cs') z

  pub shapes_refused : {x : Refusal} → o ≡ Err x → v ≡ Err x
  shapes_refused z = whole ∙ ap (λ (y : Outcome). y and_then shapes_checks rule ks' rs' cs') z

pub shapes_end : (rule : ℕ → Outcome) (ks rs cs : List ℕ) → Ended ks rs cs → shapes_checks rule ks rs cs ≡ Ok tt
unfolding shapes_checks
shapes_end rule [] rs cs e = refl
shapes_end rule (k ∷ ks) [] cs e = refl
shapes_end rule (k ∷ ks) (r ∷ rs) [] e = refl
shapes_end rule (k ∷ ks) (r ∷ rs) (c ∷ cs) (inl (inl e)) = cc
shapes_end rule (k ∷ ks) (r ∷ rs) (c ∷ cs) (inl (inr e)) = cc
shapes_end rule (k ∷ ks) (r ∷ rs) (c ∷ cs) (inr e) = cc

-- ---- the words of all bodies

pub sum_step : {ks rs cs ks' rs' cs' : List ℕ} {k r c : ℕ} → Turn k r c ks rs cs ks' rs' cs' → all_words rs cs ≡ body_words r c + all_words rs' cs'
unfolding all_words
sum_step t = ap₂ all_words t.0.1 t.1

pub words_none : (rs cs : List ℕ) (i : ℕ) → length rs ≤ i → all_words (drop i rs) (drop i cs) ≡ 0
unfolding all_words
words_none rs cs i h = rw (drop_of_length-le rs {i = i} h)

-- the sum over the pairs of rows and columns
pub words_sum : (rs cs : List ℕ) → sum_by (λ (p : ℕ × ℕ). body_words p.0 p.1) (zip rs cs) ≡ all_words rs cs
unfolding all_words
words_sum [] cs = refl
words_sum (r ∷ rs) [] = refl
words_sum (r ∷ rs) (c ∷ cs) = sum_by-cons (λ (p : ℕ × ℕ). body_words p.0 p.1) (r, c) (zip rs cs) ∙ ap (λ (n : ℕ). body_words r c + n) (words_sum rs cs)

-- ---- the entries that are left, with the words ws

pub record Going (ks rs cs ws : List ℕ) : Type 0 where
  pub shapes : shapes_checks any_kind ks rs cs ≡ Ok tt
  pub words_fit : all_words rs cs ≡ length ws
  pub fit : Fit ws

pub going_start : (ks rs cs ws : List ℕ) → Checked ks rs cs ws → Going ks rs cs ws
going_start ks rs cs ws g = record { shapes = g.shapes; words_fit = g.words_fit; fit = g.fit }

abbrev entry_of : ℕ → ℕ → ℕ → List ℕ → Entry
entry_of k r c ws = record { kind = k; rows = r; columns = c; matrix = rows_of (words_of c) r ws }

rest_end : (ks rs cs ws : List ℕ) → Ended ks rs cs → given ks rs cs ws ≡ []
unfolding given
rest_end [] rs cs ws e = refl
rest_end (k ∷ ks) [] cs ws e = refl
rest_end (k ∷ ks) (r ∷ rs) [] ws e = refl
rest_end (k ∷ ks) (r ∷ rs) (c ∷ cs) ws (inl (inl e)) = cc
rest_end (k ∷ ks) (r ∷ rs) (c ∷ cs) ws (inl (inr e)) = cc
rest_end (k ∷ ks) (r ∷ rs) (c ∷ cs) ws (inr e) = cc

contents_any : (p : ℕ) (ks rs cs ws ws' : List ℕ) → contents_of p (given ks rs cs ws) ≡ contents_of p (given ks rs cs ws')
unfolding contents_of given
contents_any p [] rs cs ws ws' = refl
contents_any p (k ∷ ks) [] cs ws ws' = refl
contents_any p (k ∷ ks) (r ∷ rs) [] ws ws' = refl
contents_any p (k ∷ ks) (r ∷ rs) (c ∷ cs) ws ws' =
    ap (λ (l : List ℕ). head_of k r c p ++ l) (contents_any (p + 8 * body_words r c) ks rs cs (drop (body_words r c) ws) (drop (body_words r c) ws'))

module _ {ks rs cs ks' rs' cs' : List ℕ} {k r c : ℕ} (t : Turn k r c ks rs cs ks' rs' cs') (ws : List ℕ) where
  rest_step : given ks rs cs ws ≡ entry_of k r c ws ∷ given ks' rs' cs' (drop (body_words r c) ws)
  unfolding given
  rest_step = cc

  module _ (o : Going ks rs cs ws) where
    step : Passes (bad_shape r c) × Passes (shapes_checks any_kind ks' rs' cs')
    step = then_done (bad_shape r c) _ (sym (whole any_kind t refl refl) ∙ o.shapes)

    count : length ws ≡ body_words r c + all_words rs' cs'
    count = sym o.words_fit ∙ sum_step t

    pub met_words : body_words r c ≤ length ws
    met_words = omega (arith, count)

    pub met : Met ws 0 r c
    met = record { shape = shaped r c step.0; inside = omega (arith, met_words) }

    pub met_fits : {w : ℕ} → w ≡ words_of c → r * w ≤ length ws
    met_fits ew = omega (arith, body_fits ws 0 r c met.inside ew)

    pub going_on : {n : ℕ} → n ≡ body_words r c → Going ks' rs' cs' (drop n ws)
    going_on {n} en = record { shapes = step.1; words_fit = omega (arith, count, length-drop n ws); fit = fit_drop n ws o.fit }

    -- padding, entry by entry: b is the answer for this one
    module _ {n : ℕ} (en : n ≡ body_words r c) {v b : Bool} (e : v ≡ all_narrow (given ks rs cs ws)) (eb : b ≡ holds_rows r c (take n ws)) where
      here : v ≡ b && all_narrow (given ks' rs' cs' (drop n ws))
      unfolding all_narrow body_words
      here =
          let m : ℕ = r * words_of c in
          let l : m ≤ length (take m ws) = omega (arith, met_words, length-take-le m ws met_words) in
          e ∙ ap all_narrow rest_step
          ∙ ap₂ (λ (x : Bool) (k : ℕ). x && all_narrow (given ks' rs' cs' (drop k ws)))
          (sym (eb ∙ ap (λ (k : ℕ). holds_rows r c (take k ws)) en ∙ sym (holds_narrow r c (take m ws) l) ∙ ap (narrow c) (rows_take (words_of c) r ws)))
          (sym en)

      pub narrow_turn : b ≡ true → v ≡ all_narrow (given ks' rs' cs' (drop n ws))
      narrow_turn z = here ∙ ap (λ (x : Bool). x && all_narrow (given ks' rs' cs' (drop n ws))) z

      pub narrow_stop : b ≡ false → false ≡ v
      narrow_stop z = sym (here ∙ ap (λ (x : Bool). x && all_narrow (given ks' rs' cs' (drop n ws))) z)

    -- its body is put: rows laid out as words are the words that were given; f is the output to come
    module _ {n : ℕ} (en : n ≡ body_words r c) where
      body_bytes : body_of (entry_of k r c ws) ≡ bytes_of_words k (take n ws)
      unfolding body_of body_words
      body_bytes = ap (bytes_of_words k) (flat_rows (words_of c) r ws o.fit met_words ∙ ap (λ (x : ℕ). take x ws) (sym en))

      pub bodies_turn : {f out' : List ℕ} (out : List ℕ) (p : ℕ) → f ≡ splice p (bodies_of (given ks rs cs ws)) out → p ≤ length out
          → out' ≡ splice p (bytes_of_words k (take n ws)) out → f ≡ splice (p + 8 * length (take n ws)) (bodies_of (given ks' rs' cs' (drop n ws))) out'
      unfolding bodies_of
      bodies_turn out p e l eo =
          let X : List ℕ = bytes_of_words k (take n ws) in
          let T : List ℕ = bodies_of (given ks' rs' cs' (drop n ws)) in
          e ∙ ap (λ (x : List Entry). splice p (bodies_of x) out) rest_step
          ∙ ap₂ (λ (x : List ℕ) (m : ℕ). splice p (x ++ bodies_of (given ks' rs' cs' (drop m ws))) out) body_bytes (sym en)
          ∙ splice_append p X T out l
          ∙ ap₂ (λ (x : ℕ) (y : List ℕ). splice (p + x) T y) (length_words_bytes k (take n ws)) (sym eo)

  -- its ten bytes are put, and its matrix does not show in them
  pub contents_turn : {f out' : List ℕ} {n : ℕ} (out : List ℕ) (p q : ℕ) → f ≡ splice p (contents_of q (given ks rs cs ws)) out → p ≤ length out
      → n ≡ body_words r c → out' ≡ splice p (head_of k r c q) out → f ≡ splice (p + 10) (contents_of (q + 8 * n) (given ks' rs' cs' ws)) out'
  unfolding contents_of
  contents_turn {f} {out'} {n} out p q e l en eo =
      let H : List ℕ = head_of k r c q in
      let T : List ℕ = contents_of (q + 8 * n) (given ks' rs' cs' ws) in
      e ∙ ap (λ (x : List Entry). splice p (contents_of q x) out) rest_step
      ∙ ap (λ (x : List ℕ). splice p (H ++ x) out) (ap (λ (m : ℕ). contents_of (q + 8 * m) (given ks' rs' cs' (drop (body_words r c) ws))) (sym en) ∙ contents_any (q + 8 * n) ks' rs' cs' (drop (body_words r c) ws) ws)
      ∙ splice_append p H T out l
      ∙ ap₂ (λ (x : ℕ) (y : List ℕ). splice (p + x) T y) (length_head k r c q) (sym eo)

-- ---- before the first turn

module _ (ks rs cs ws out : List ℕ) (q : ℕ) where
  pub contents_start : splice 2 (contents_of q (given ks rs cs ws)) out ≡ splice (2 + 10 * 0) (contents_of (q + 8 * 0) (given ks rs cs ws)) out
  contents_start =
      let z : q ≡ q + 8 * 0 = omega arith in
      ap (λ (x : ℕ). splice 2 (contents_of x (given ks rs cs ws)) out) z

  pub bodies_start : splice q (bodies_of (given ks rs cs ws)) out ≡ splice (q + 8 * 0) (bodies_of (given ks rs cs ws)) out
  bodies_start =
      let z : q ≡ q + 8 * 0 = omega arith in
      ap (λ (x : ℕ). splice x (bodies_of (given ks rs cs ws)) out) z

-- ---- after the last turn

module _ (ks rs cs ws : List ℕ) (h : Ended ks rs cs) where
  pub narrow_end : all_narrow (given ks rs cs ws) ≡ true
  unfolding all_narrow
  narrow_end = ap all_narrow (rest_end ks rs cs ws h)

  pub contents_end : {f : List ℕ} (out : List ℕ) (p q : ℕ) → f ≡ splice p (contents_of q (given ks rs cs ws)) out → out ≡ f
  unfolding contents_of
  contents_end out p q e = sym (e ∙ ap (λ (x : List Entry). splice p (contents_of q x) out) (rest_end ks rs cs ws h) ∙ splice_none p out)

  pub bodies_end : {f : List ℕ} (out : List ℕ) (p : ℕ) → f ≡ splice p (bodies_of (given ks rs cs ws)) out → out ≡ f
  unfolding bodies_of
  bodies_end out p e = sym (e ∙ ap (λ (x : List Entry). splice p (bodies_of x) out) (rest_end ks rs cs ws h) ∙ splice_none p out)
