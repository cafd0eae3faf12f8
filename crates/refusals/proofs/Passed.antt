-- What the checks say: they refuse nothing exactly if each of their conditions fails.
use mathlib.Core.Path.{◌≡◌, refl, sym, ap, ◌∙◌, subst}
use mathlib.Core.Bool.{Bool, true, false, not}
use mathlib.Core.List.{List}
use Prim.Native.Nat.{ℕ, ◌+◌, ◌-◌, ◌*◌, ◌^◌, ◌≤◌, ◌<◌}
use native.Mathlib.Nat.{zero-add, one-mul}
use native.Mathlib.Omega.{arith}
use borrow.Author.Tests.{ltb-false, eqb-false, eqb-true, leb-false, le-ltb, lt-leb, eq-eqb, ne_eqb}
pub use borrow.Author.Tests.{not-false}
use lib.Dec.{eqb, ltb, leb, lit<}
use lib.ListN.{length}
use Rattle.words.specs.Words.{words_of, Clean, holds_rows}
use Rattle.words.proofs.Padding.{holds_exactly}
use Rattle.refusals.specs.declared.Refusal.{Refusal}
use Rattle.refusals.specs.declared.Refusal.TheVariants.{TooManyRows, BadColumns, BadK, WrongLength, DirtyPadding, ShortRoom, BadBlocks, NotSquare, NoInverse, Contradictory, TooWide, NotBelow, WrongBuffer, BundleSize, EntryCount, ContentsCut, BadKind, BadShape, WrongOffset, BodyPast, BytesLeft, ShortOutput, BundleOver}
use Rattle.std.specs.Prelude.{Ok, Err}
use Rattle.refusals.specs.Outcome.{Outcome, number_of, outcome_number, refuse_if, Decides, ◌and_then◌}
use Rattle.refusals.specs.Checks.{too_many_rows, bad_columns, size_checks, bad_k, wrong_length, short_room, not_below, dirty_padding, bad_blocks, not_square, too_wide, wrong_buffer, wrong_marks, view_order, view_checks, reduction_order, reduction_checks, inverse_shapes, inverse_order, inverse_checks, solving_shapes, solving_order, solving_checks, contradiction_shapes, contradiction_order, contradiction_checks, Sized, Window, Parted, ViewPasses, ReductionPasses, InversePasses, SolvingPasses, ContradictionPasses}
use Rattle.refusals.proofs.Chain.{Passes, passing, passed}
pub use Rattle.refusals.proofs.Chain.{refused_not, then_done, done_then}

-- ---- numbers

-- a refusal's number is not 0
number_pos : (r : Refusal) → 0 < number_of r
number_pos TooManyRows = lit< tt
number_pos BadColumns = lit< tt
number_pos BadK = lit< tt
number_pos WrongLength = lit< tt
number_pos DirtyPadding = lit< tt
number_pos ShortRoom = lit< tt
number_pos BadBlocks = lit< tt
number_pos NotSquare = lit< tt
number_pos NoInverse = lit< tt
number_pos Contradictory = lit< tt
number_pos TooWide = lit< tt
number_pos NotBelow = lit< tt
number_pos WrongBuffer = lit< tt
number_pos BundleSize = lit< tt
number_pos EntryCount = lit< tt
number_pos ContentsCut = lit< tt
number_pos BadKind = lit< tt
number_pos BadShape = lit< tt
number_pos WrongOffset = lit< tt
number_pos BodyPast = lit< tt
number_pos BytesLeft = lit< tt
number_pos ShortOutput = lit< tt
number_pos BundleOver = lit< tt

pub number_zero : (o : Outcome) → outcome_number o ≡ 0 → o ≡ Ok tt
number_zero (Ok tt) e = refl
number_zero (Err r) e = absurd (omega (arith, number_pos r))

-- ---- one check, and what stands behind it

pub if_done : (b : Bool) (r : Refusal) → Passes (refuse_if b r) → b ≡ false
if_done true r e = absurd (refused_not e)
if_done false r e = refl

pub done_if : {b : Bool} (r : Refusal) → b ≡ false → Passes (refuse_if b r)
done_if r e = ap (λ (b : Bool). refuse_if b r) e

-- two checks more, behind those whose outcome is known
module _ {c : Outcome} (o p q : Outcome) (e : o ≡ c) where
  pub stays_refused : {r : Refusal} → o ≡ Err r → ◌≡◌ {A = Outcome} (Err r) (c and_then p and_then q)
  stays_refused f = sym (ap (λ (x : Outcome). x and_then p and_then q) (sym e ∙ f))

  pub goes_on : {x : Outcome} → o ≡ Ok tt → x ≡ p and_then q → x ≡ c and_then p and_then q
  goes_on f g = g ∙ sym (ap (λ (x : Outcome). x and_then p and_then q) (sym e ∙ f))

-- what a test decides
module _ {A : Type 0} (b : Bool) (d : Decides b A) where
  pub yes_so : b ≡ true → A
  yes_so e = subst (λ (x : Bool). Decides x A) e d

  pub not_so : b ≡ false → A → ⊥
  not_so e = subst (λ (x : Bool). Decides x A) e d

pub pos : {n : ℕ} → (n ≡ 0 → ⊥) → 0 < n
pos h = omega arith

-- ---- the checks of numbers

few_done : (rows : ℕ) → Passes (too_many_rows rows) → rows ≤ 512
unfolding too_many_rows
few_done rows e = ltb-false 512 rows (if_done (ltb 512 rows) _ e)

done_few : (rows : ℕ) → rows ≤ 512 → Passes (too_many_rows rows)
unfolding too_many_rows
done_few rows h = done_if _ (le-ltb 512 rows h)

pub columns_done : (columns : ℕ) → Passes (bad_columns columns) → (0 < columns) × (columns ≤ 1024)
unfolding bad_columns
columns_done columns e =
    let t = then_done (refuse_if (eqb columns 0) _) (refuse_if (ltb 1024 columns) _) e in
    (pos (eqb-false columns 0 (if_done (eqb columns 0) _ t.0)), ltb-false 1024 columns (if_done (ltb 1024 columns) _ t.1))

pub done_columns : (columns : ℕ) → 0 < columns → columns ≤ 1024 → Passes (bad_columns columns)
unfolding bad_columns
done_columns columns h l = done_then (done_if _ (ne_eqb columns 0 (λ e. omega arith))) (done_if _ (le-ltb 1024 columns l))

pub sizes_done : (rows columns : ℕ) → Passes (size_checks rows columns) → Sized 512 rows columns
unfolding size_checks
sizes_done rows columns e =
    let t = then_done (too_many_rows rows) (bad_columns columns) e in
    let c = columns_done columns t.1 in
    record { few = few_done rows t.0; some = c.0; wide = c.1 }

pub done_sizes : (rows columns : ℕ) → Sized 512 rows columns → Passes (size_checks rows columns)
unfolding size_checks
done_sizes rows columns s = done_then (done_few rows s.few) (done_columns columns s.some s.wide)

pub window_done : (k : ℕ) → Passes (bad_k k) → Window k
unfolding bad_k
window_done k e =
    let t = then_done (refuse_if (eqb k 0) _) (refuse_if (ltb 8 k) _) e in
    record { least = pos (eqb-false k 0 (if_done (eqb k 0) _ t.0)); most = ltb-false 8 k (if_done (ltb 8 k) _ t.1) }

pub done_window : (k : ℕ) → Window k → Passes (bad_k k)
unfolding bad_k
done_window k w = done_then (done_if _ (ne_eqb k 0 (λ e. omega (arith, w.least)))) (done_if _ (le-ltb 8 k w.most))

parted_done : (n columns : ℕ) → Passes (bad_blocks n columns) → Parted n columns
unfolding bad_blocks
parted_done n columns e =
    let t = then_done (refuse_if (eqb n 0) _) (refuse_if (leb columns n) _) e in
    record { block = pos (eqb-false n 0 (if_done (eqb n 0) _ t.0)); payload = leb-false columns n (if_done (leb columns n) _ t.1) }

done_parted : (n columns : ℕ) → Parted n columns → Passes (bad_blocks n columns)
unfolding bad_blocks
done_parted n columns p = done_then (done_if _ (ne_eqb n 0 (λ e. omega (arith, p.block)))) (done_if _ (lt-leb columns n p.payload))

pub wide_done : (columns packets : ℕ) → Passes (too_wide columns packets) → columns + packets ≤ 1024
unfolding too_wide
wide_done columns packets e = ltb-false 1024 (columns + packets) (if_done (ltb 1024 (columns + packets)) _ e)

pub done_wide : (columns packets : ℕ) → columns + packets ≤ 1024 → Passes (too_wide columns packets)
unfolding too_wide
done_wide columns packets h = done_if TooWide (le-ltb 1024 (columns + packets) h)

below_done : (i count : ℕ) → Passes (not_below i count) → i < count
unfolding not_below
below_done i count e = leb-false count i (if_done (leb count i) _ e)

done_below : (i count : ℕ) → i < count → Passes (not_below i count)
unfolding not_below
done_below i count h = done_if _ (lt-leb count i h)

-- ---- the checks of lengths

-- two numbers that must be equal
pub same_done : (r : Refusal) (a b : ℕ) → Passes (refuse_if (not (eqb a b)) r) → a ≡ b
same_done r a b e = eqb-true a b (not-false (eqb a b) (if_done (not (eqb a b)) r e))

pub done_same : (r : Refusal) (a b : ℕ) → a ≡ b → Passes (refuse_if (not (eqb a b)) r)
done_same r a b h = done_if r (ap not (eq-eqb a b h))

square_done : (rows columns : ℕ) → Passes (not_square rows columns) → rows ≡ columns
unfolding not_square
square_done rows columns e = same_done NotSquare rows columns e

done_square : (rows columns : ℕ) → rows ≡ columns → Passes (not_square rows columns)
unfolding not_square
done_square rows columns h = done_same NotSquare rows columns h

exact_done : (rows columns len : ℕ) → Passes (wrong_length rows columns len) → len ≡ rows * words_of columns
unfolding wrong_length
exact_done rows columns len e = same_done WrongLength len (rows * words_of columns) e

done_exact : (rows columns len : ℕ) → len ≡ rows * words_of columns → Passes (wrong_length rows columns len)
unfolding wrong_length
done_exact rows columns len h = done_same WrongLength len (rows * words_of columns) h

buffer_done : (rows columns len : ℕ) → Passes (wrong_buffer rows columns len) → len ≡ rows * words_of columns
unfolding wrong_buffer
buffer_done rows columns len e = same_done WrongBuffer len (rows * words_of columns) e

done_buffer : (rows columns len : ℕ) → len ≡ rows * words_of columns → Passes (wrong_buffer rows columns len)
unfolding wrong_buffer
done_buffer rows columns len h = done_same WrongBuffer len (rows * words_of columns) h

marks_done : (n len : ℕ) → Passes (wrong_marks n len) → len ≡ n
unfolding wrong_marks
marks_done n len e = same_done WrongBuffer len n e

done_marks : (n len : ℕ) → len ≡ n → Passes (wrong_marks n len)
unfolding wrong_marks
done_marks n len h = done_same WrongBuffer len n h

pub room_done : (more k columns room : ℕ) → Passes (short_room more k columns room) → (more + 2 ^ k) * words_of columns ≤ room
unfolding short_room
room_done more k columns room e = ltb-false room ((more + 2 ^ k) * words_of columns) (if_done (ltb room ((more + 2 ^ k) * words_of columns)) _ e)

pub done_room : (more k columns room : ℕ) → (more + 2 ^ k) * words_of columns ≤ room → Passes (short_room more k columns room)
unfolding short_room
done_room more k columns room h = done_if _ (le-ltb room ((more + 2 ^ k) * words_of columns) h)

-- a room for the table alone
table_only : (k w : ℕ) → (0 + 2 ^ k) * w ≡ 2 ^ k * w
table_only k w = ap (λ (x : ℕ). x * w) (zero-add (2 ^ k))

table_done : (k columns room : ℕ) → Passes (short_room 0 k columns room) → 2 ^ k * words_of columns ≤ room
table_done k columns room e = omega (arith, table_only k (words_of columns), room_done 0 k columns room e)

done_table : (k columns room : ℕ) → 2 ^ k * words_of columns ≤ room → Passes (short_room 0 k columns room)
done_table k columns room h = done_room 0 k columns room (omega (arith, table_only k (words_of columns), h))

-- words for one row
line_done : (columns len : ℕ) → Passes (wrong_buffer 1 columns len) → len ≡ words_of columns
line_done columns len e = buffer_done 1 columns len e ∙ one-mul (words_of columns)

done_line : (columns len : ℕ) → len ≡ words_of columns → Passes (wrong_buffer 1 columns len)
done_line columns len h = done_buffer 1 columns len (h ∙ sym (one-mul (words_of columns)))

-- ---- the padding, where the length is right

module _ (rows columns : ℕ) (m : List ℕ) where
  clean_done : Passes (dirty_padding rows columns m) → Clean rows columns m
  unfolding dirty_padding
  clean_done e = ((holds_exactly rows columns m).0 (not-false (holds_rows rows columns m) (if_done (not (holds_rows rows columns m)) _ e))).1

  done_clean : length m ≡ rows * words_of columns → Clean rows columns m → Passes (dirty_padding rows columns m)
  unfolding dirty_padding
  done_clean exact h = done_if _ (ap not ((holds_exactly rows columns m).1 (omega arith, h)))

-- ---- the calls

module _ (rows columns len i : ℕ) where
  pub view_passed : Passes (view_checks rows columns len i) → ViewPasses rows columns len i
  view_passed =
      passed (view_order rows columns len i) (λ sizes exact below. record {
        sized = sizes_done rows columns sizes;
        exact = exact_done rows columns len exact;
        below = below_done i rows below;
      })

  pub passes_view : ViewPasses rows columns len i → Passes (view_checks rows columns len i)
  passes_view p =
      passing (view_order rows columns len i)
      (done_sizes rows columns p.sized)
      (done_exact rows columns len p.exact)
      (done_below i rows p.below)

module _ (rows columns k : ℕ) (m : List ℕ) (room : ℕ) where
  pub reduction_passed : Passes (reduction_checks rows columns k m room) → ReductionPasses rows columns k m room
  reduction_passed =
      passed (reduction_order rows columns k m room) (λ sizes window exact short clean. record {
        sized = sizes_done rows columns sizes;
        window = window_done k window;
        exact = exact_done rows columns (length m) exact;
        roomy = table_done k columns room short;
        clean = clean_done rows columns m clean;
      })

  pub passes_reduction : ReductionPasses rows columns k m room → Passes (reduction_checks rows columns k m room)
  passes_reduction p =
      passing (reduction_order rows columns k m room)
      (done_sizes rows columns p.sized)
      (done_window k p.window)
      (done_exact rows columns (length m) p.exact)
      (done_table k columns room p.roomy)
      (done_clean rows columns m p.exact p.clean)

module _ (rows columns k : ℕ) (m : List ℕ) (result room : ℕ) where
  pub inverse_passed : Passes (inverse_checks rows columns k m result room) → InversePasses rows columns k m result room
  inverse_passed =
      passed (inverse_order rows columns k m result room) (λ shapes short clean.
      passed (inverse_shapes rows columns k (length m) result) (λ sizes square window exact buffer. record {
        sized = sizes_done rows columns sizes;
        square = square_done rows columns square;
        window = window_done k window;
        exact = exact_done rows columns (length m) exact;
        fitting = buffer_done rows columns result buffer;
        roomy = room_done rows k (rows + columns) room short;
        clean = clean_done rows columns m clean;
      }) shapes)

  pub passes_inverse : InversePasses rows columns k m result room → Passes (inverse_checks rows columns k m result room)
  passes_inverse p =
      passing (inverse_order rows columns k m result room)
      (passing (inverse_shapes rows columns k (length m) result)
      (done_sizes rows columns p.sized)
      (done_square rows columns p.square)
      (done_window k p.window)
      (done_exact rows columns (length m) p.exact)
      (done_buffer rows columns result p.fitting))
      (done_room rows k (rows + columns) room p.roomy)
      (done_clean rows columns m p.exact p.clean)

module _ (rows columns n k : ℕ) (m : List ℕ) (image marks room : ℕ) where
  pub solving_passed : Passes (solving_checks rows columns n k m image marks room) → SolvingPasses rows columns n k m image marks room
  solving_passed =
      passed (solving_order rows columns n k m image marks room) (λ shapes short clean.
      passed (solving_shapes rows columns n k (length m) image marks) (λ sizes blocks window exact buffer marked. record {
        sized = sizes_done rows columns sizes;
        parted = parted_done n columns blocks;
        window = window_done k window;
        exact = exact_done rows columns (length m) exact;
        fitting = buffer_done n (columns - n) image buffer;
        marked = marks_done n marks marked;
        roomy = table_done k columns room short;
        clean = clean_done rows columns m clean;
      }) shapes)

  pub passes_solving : SolvingPasses rows columns n k m image marks room → Passes (solving_checks rows columns n k m image marks room)
  passes_solving p =
      passing (solving_order rows columns n k m image marks room)
      (passing (solving_shapes rows columns n k (length m) image marks)
      (done_sizes rows columns p.sized)
      (done_parted n columns p.parted)
      (done_window k p.window)
      (done_exact rows columns (length m) p.exact)
      (done_buffer n (columns - n) image p.fitting)
      (done_marks n marks p.marked))
      (done_table k columns room p.roomy)
      (done_clean rows columns m p.exact p.clean)

module _ (rows columns n k : ℕ) (m : List ℕ) (named room : ℕ) where
  pub contradiction_passed : Passes (contradiction_checks rows columns n k m named room) → ContradictionPasses rows columns n k m named room
  contradiction_passed =
      passed (contradiction_order rows columns n k m named room) (λ shapes short clean.
      passed (contradiction_shapes rows columns n k (length m) named) (λ sizes blocks wide window exact line. record {
        sized = sizes_done rows columns sizes;
        parted = parted_done n columns blocks;
        wide = wide_done columns rows wide;
        window = window_done k window;
        exact = exact_done rows columns (length m) exact;
        fitting = line_done rows named line;
        roomy = room_done rows k (columns + rows) room short;
        clean = clean_done rows columns m clean;
      }) shapes)

  pub passes_contradiction : ContradictionPasses rows columns n k m named room → Passes (contradiction_checks rows columns n k m named room)
  passes_contradiction p =
      passing (contradiction_order rows columns n k m named room)
      (passing (contradiction_shapes rows columns n k (length m) named)
      (done_sizes rows columns p.sized)
      (done_parted n columns p.parted)
      (done_wide columns rows p.wide)
      (done_window k p.window)
      (done_exact rows columns (length m) p.exact)
      (done_line rows named p.fitting))
      (done_room rows k (columns + rows) room p.roomy)
      (done_clean rows columns m p.exact p.clean)

-- ---- after the checks of sizes the room's width can be added up

pub sizes_small : (rows columns : ℕ) (o : Outcome) → o ≡ size_checks rows columns → Passes o → rows + columns ≤ 1536
sizes_small rows columns o e f = let s = sizes_done rows columns (sym e ∙ f) in omega (arith, s.few, s.wide)
