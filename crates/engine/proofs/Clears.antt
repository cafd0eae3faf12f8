-- The loop that adds to the last v words of each row, from word z on, the table row whose number it has.
use mathlib.Core.Path.{◌≡◌, refl, sym, ap, ◌∙◌, subst}
use mathlib.Core.Logic.{◌≢◌}
use mathlib.Core.List.{List}
use Prim.Native.Nat.{ℕ, ◌+◌, ◌*◌, ◌^◌, ◌<◌, ◌≤◌}
use native.Mathlib.Decide.{ℕ_discrete}
use native.Mathlib.Omega.{arith}
use lib.Bits.{xor_zero_r}
use lib.ListN.{length, get_or, take, drop, set}
use lib.Seq.{paste, get_or-set_same, get_or-set_other, set-get_or, length-paste, drop-drop}
use Rattle.gf2.specs.Rows.{◌⊕◌, row, part, pick}
use Rattle.gf2.proofs.Products.{is_tabulate}
use Rattle.words.specs.Words.{Fit, value, rows_of, xors}
use Rattle.words.proofs.Parts.{length_xors, length_part, drop_past}
use Rattle.words.proofs.Rows.{row_ends, length_rows}
use Rattle.engine.specs.Stage.{Now, added}
use Rattle.engine.proofs.Tails.{tail_added, pick_some, pick_none}

-- ---- on rows: row i adds f i

-- the first i rows of L are done
pub record Clearing (i : ℕ) (f : ℕ → ℕ) (L N : List ℕ) : Type 0 where
  pub done : (k : ℕ) → k < i → row N k ≡ row L k ⊕ f k
  pub rest : (k : ℕ) → i ≤ k → row N k ≡ row L k

clearing_more : (i : ℕ) (f : ℕ → ℕ) (L N K : List ℕ) → i < length N → Clearing i f L N → K ≡ set N i (row N i ⊕ f i) → Clearing (i + 1) f L K
clearing_more i f L N K h C e = record {
  done = λ k l. done k l (ℕ_discrete k i);
  rest = λ k l. ap (λ (X : List ℕ). row X k) e ∙ get_or-set_other N i k (row N i ⊕ f i) 0 (omega arith) ∙ C.rest k (omega arith);
}
  where
    done : (k : ℕ) → k < i + 1 → Dec (k ≡ i) → row K k ≡ row L k ⊕ f k
    done k l (yes q) =
        rw q (ap (λ (X : List ℕ). row X i) e ∙ get_or-set_same N i (row N i ⊕ f i) 0 h
        ∙ ap (λ (v : ℕ). v ⊕ f i) (C.rest i (omega arith)))
    done k l (no q) = ap (λ (X : List ℕ). row X k) e ∙ get_or-set_other N i k (row N i ⊕ f i) 0 q ∙ C.done k (omega arith)

-- ---- on words

-- what row i adds
abbrev pub adds : ℕ → List ℕ → (ℕ → ℕ) → ℕ → ℕ
adds z o T i = pick (get_or o i 0) (T (get_or o i 0) * 2 ^ (64 * z))

-- the first i rows have been cleared
pub record Clears (w z n i : ℕ) (o : List ℕ) (T : ℕ → ℕ) (m₀ m : List ℕ) : Type 0 where
  pub rows : Clearing i (adds z o T) (rows_of w n m₀) (rows_of w n m)
  pub past : drop (n * w) m ≡ drop (n * w) m₀
  pub long : length m ≡ length m₀
  pub fit : Fit m

module _ (w z n : ℕ) (o : List ℕ) (T : ℕ → ℕ) where
  pub clears_start : (m : List ℕ) → Fit m → Clears w z n 0 o T m m
  clears_start m f = record { rows = record { done = λ k h. absurd (omega arith); rest = λ k h. refl }; past = refl; long = refl; fit = f }

  -- a row of number 0 stays
  pub clears_none : (i : ℕ) (m₀ m : List ℕ) → i < n → get_or o i 0 ≡ 0 → Clears w z n i o T m₀ m → Clears w z n (i + 1) o T m₀ m
  clears_none i m₀ m h q s = record {
    rows = clearing_more i (adds z o T) (rows_of w n m₀) (rows_of w n m) (rows_of w n m) (rw (length_rows w n m) h) s.rows
        (sym (ap (λ (x : ℕ). set (rows_of w n m) i (row (rows_of w n m) i ⊕ x)) (pick_none (get_or o i 0) (T (get_or o i 0) * 2 ^ (64 * z)) q)
        ∙ ap (set (rows_of w n m) i) (xor_zero_r (row (rows_of w n m) i)) ∙ set-get_or (rows_of w n m) i 0));
    past = s.past;
    long = s.long;
    fit = s.fit;
  }

  -- the words y, the table row that the row's number names, are added
  pub clears_one : (i v : ℕ) (m₀ m y m' : List ℕ) → i < n → z + v ≡ w → n * w ≤ length m₀ → length y ≡ v → Fit y → get_or o i 0 ≢ 0 → value y ≡ T (get_or o i 0)
      → m' ≡ paste m (i * w + z) (xors (part (i * w + z) v m) y) v → Fit m' → Clears w z n i o T m₀ m → Clears w z n (i + 1) o T m₀ m'
  clears_one i v m₀ m y m' hi hz hm ly fy some sum e fm s =
      let L : List ℕ = rows_of w n m in
      let x : List ℕ = xors (part (i * w + z) v m) y in
      let l : n * w ≤ length m = omega (arith, s.long) in
      let end : i * w + z + v ≤ length m = omega (arith, row_ends i n w hi) in
      let lx : length x ≡ v = length_xors (part (i * w + z) v m) y ∙ length_part (i * w + z) v m end in
      let named : value y * 2 ^ (64 * z) ≡ adds z o T i = ap (λ (q : ℕ). q * 2 ^ (64 * z)) sum ∙ sym (pick_some (get_or o i 0) (T (get_or o i 0) * 2 ^ (64 * z)) some) in
      record {
        rows = clearing_more i (adds z o T) (rows_of w n m₀) L (rows_of w n m') (rw (length_rows w n m) hi) s.rows
            (ap (rows_of w n) e ∙ tail_added w z v n m hz l s.fit i y hi ly fy ∙ ap (λ (q : ℕ). set L i (row L i ⊕ q)) named);
        past = ap (drop (n * w)) e ∙ drop_past m (i * w + z) x v (n * w) (omega (arith, row_ends i n w hi)) (omega arith) (omega arith) ∙ s.past;
        long = ap length e ∙ length-paste m (i * w + z) x v end (omega arith) ∙ s.long;
        fit = fm;
      }

  pub clears_done : (i : ℕ) (m₀ m : List ℕ) → i ≡ n → Clears w z n i o T m₀ m → Now w n m₀ m (added z o T (rows_of w n m₀))
  unfolding added
  clears_done i m₀ m e s =
      let q : i ≡ length (rows_of w n m₀) = e ∙ sym (length_rows w n m₀) in
      record {
        rows = is_tabulate (rows_of w n m) (length (rows_of w n m₀)) (λ j. row (rows_of w n m₀) j ⊕ adds z o T j) (length_rows w n m ∙ sym (length_rows w n m₀))
            (subst (λ (k : ℕ). Clearing k (adds z o T) (rows_of w n m₀) (rows_of w n m)) q s.rows).done;
        past = s.past;
      }

-- words behind the rows, as long as nothing there changes
pub table_words : (b k v : ℕ) (m m₀ : List ℕ) → drop b m ≡ drop b m₀ → part (b + k) v m ≡ part k v (drop b m₀)
table_words b k v m m₀ e = ap (take v) (sym (drop-drop k b m) ∙ ap (drop k) e)
