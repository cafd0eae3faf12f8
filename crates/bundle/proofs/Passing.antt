-- The checks refuse nothing exactly if what passing means holds: of an entry, of all entries, of a bundle.
use mathlib.Core.Path.{◌≡◌, refl, sym, ap, subst}
use mathlib.Core.Bool.{not}
use mathlib.Core.List.{List}
use Prim.Native.Nat.{ℕ, zero, suc, ◌+◌, ◌*◌, ◌<◌, ◌≤◌}
use native.Mathlib.Omega.{arith}
use lib.Dec.{ltb, eqb}
use lib.ListN.{length}
use borrow.Author.Tests.{ltb-false, eqb-false, le-ltb, ne_eqb, not-false}
use Rattle.refusals.specs.declared.Refusal.{Refusal}
use Rattle.refusals.specs.declared.Refusal.TheVariants.{BadShape}
use Rattle.std.specs.Prelude.{Ok, Err}
use Rattle.std.specs.Result.{result_or}
use Rattle.refusals.specs.Outcome.{Outcome, refuse_if, first}
use Rattle.refusals.specs.Checks.{size_checks, Sized}
use Rattle.words.specs.Words.{narrow}
use Rattle.refusals.proofs.Chain.{Passes, refused_not, then_done, passing, passed}
use Rattle.refusals.proofs.Passed.{pos, if_done, done_if, same_done, done_same, sizes_done, done_sizes}
use Rattle.bundle.specs.Bundle.{body_words, head_bytes, count_of, kind_at, rows_at, columns_at, offset_at, words_in, matrix_at}
use Rattle.bundle.specs.Bundle.{bad_shape, body_order, entry_order, entries_checks, bundle_order, bundle_checks, Stands, Placed, Accepted}

-- ---- a check of a number: that it is not over another, that it is not 0

module _ (r : Refusal) (m n : ℕ) where
  pub most_done : Passes (refuse_if (ltb m n) r) → n ≤ m
  most_done e = ltb-false m n (if_done (ltb m n) r e)

  pub done_most : n ≤ m → Passes (refuse_if (ltb m n) r)
  done_most h = done_if r (le-ltb m n h)

module _ (r : Refusal) (n : ℕ) where
  pub some_done : Passes (refuse_if (eqb n 0) r) → 0 < n
  some_done e = pos (eqb-false n 0 (if_done (eqb n 0) r e))

  pub done_some : 0 < n → Passes (refuse_if (eqb n 0) r)
  done_some h = done_if r (ne_eqb n 0 (λ e. omega arith))

-- ---- an entry

as_done : (r : Refusal) (o : Outcome) → Passes (result_or o (Err r)) → Passes o
as_done r (Ok tt) e = refl
as_done r (Err x) e = absurd (refused_not e)

pub shaped : (rows columns : ℕ) → Passes (bad_shape rows columns) → Sized 512 rows columns
unfolding bad_shape
shaped rows columns e = sizes_done rows columns (as_done BadShape (size_checks rows columns) e)

pub shape_passes : (rows columns : ℕ) → Sized 512 rows columns → Passes (bad_shape rows columns)
unfolding bad_shape
shape_passes rows columns s = ap (λ (o : Outcome). result_or o (Err BadShape)) (done_sizes rows columns s)

module _ (kind rows columns offset p : ℕ) (b : List ℕ) where
  pub stands : Passes (first (body_order kind rows columns offset p b)) → Stands kind rows columns offset p b
  unfolding body_order
  stands =
      passed (body_order kind rows columns offset p b) (λ here inside clean. record {
        here = same_done _ offset p here;
        inside = most_done _ (length b) (p + 8 * body_words rows columns) inside;
        clean = not-false _ (if_done (not (narrow columns (matrix_at kind p rows columns b))) _ clean);
      })

  pub body_passes : Stands kind rows columns offset p b → Passes (first (body_order kind rows columns offset p b))
  unfolding body_order
  body_passes s =
      passing (body_order kind rows columns offset p b)
      (done_same _ offset p s.here)
      (done_most _ (length b) (p + 8 * body_words rows columns) s.inside)
      (done_if _ (ap not s.clean))

module _ (rule : ℕ → Outcome) (i p : ℕ) (b : List ℕ) where
  pub placed : Passes (first (entry_order rule i p b)) → Placed rule i p b
  unfolding entry_order
  placed =
      passed (entry_order rule i p b) (λ taken shape body. record {
        taken = taken;
        shape = shaped (rows_at i b) (columns_at i b) shape;
        body = stands (kind_at i b) (rows_at i b) (columns_at i b) (offset_at i b) p b body;
      })

  pub entry_passes : Placed rule i p b → Passes (first (entry_order rule i p b))
  unfolding entry_order
  entry_passes P =
      passing (entry_order rule i p b)
      P.taken
      (shape_passes (rows_at i b) (columns_at i b) P.shape)
      (body_passes (kind_at i b) (rows_at i b) (columns_at i b) (offset_at i b) p b P.body)

-- ---- entries one after the other

pub entries_step : (rule : ℕ → Outcome) (n i p : ℕ) (b : List ℕ) → entries_checks rule (suc n) i p b ≡ Ok tt
    → Placed rule i p b × (entries_checks rule n (i + 1) (p + 8 * words_in i b) b ≡ Ok tt)
unfolding entries_checks
entries_step rule n i p b e =
    let t = then_done (first (entry_order rule i p b)) (entries_checks rule n (i + 1) (p + 8 * words_in i b) b) e in
    (placed rule i p b t.0, t.1)

pub entries_end : (rule : ℕ → Outcome) (i p : ℕ) (b : List ℕ) → entries_checks rule 0 i p b ≡ Ok tt → p ≡ length b
unfolding entries_checks
entries_end rule i p b e = same_done _ p (length b) e

-- each entry is placed where its own contents say
pub all_placed : (rule : ℕ → Outcome) (n i p : ℕ) (b : List ℕ) → entries_checks rule n i p b ≡ Ok tt → (j : ℕ) → j < n → Placed rule (i + j) (offset_at (i + j) b) b
all_placed rule zero i p b e j h = absurd (omega arith)
all_placed rule (suc n) i p b e j h = go (all_placed rule n (i + 1) (p + 8 * words_in i b) b (entries_step rule n i p b e).1) j h
  where
    here : Placed rule i p b
    here = (entries_step rule n i p b e).0

    go : ((j : ℕ) → j < n → Placed rule (i + 1 + j) (offset_at (i + 1 + j) b) b) → (j : ℕ) → j < suc n → Placed rule (i + j) (offset_at (i + j) b) b
    go rest zero h =
        let z : i ≡ i + 0 = omega arith in
        subst (λ (m : ℕ). Placed rule m (offset_at m b) b) z (subst (λ (o : ℕ). Placed rule i o b) (sym here.body.here) here)
    go rest (suc j) h =
        let z : i + 1 + j ≡ i + suc j = omega arith in
        subst (λ (m : ℕ). Placed rule m (offset_at m b) b) z (rest j (omega arith))

-- ---- a bundle

module _ (rule : ℕ → Outcome) (b : List ℕ) where
  pub accepted : Passes (bundle_checks rule b) → Accepted rule b
  unfolding bundle_order
  accepted =
      passed (bundle_order rule b) (λ long short any few whole entries. record {
        long = most_done _ (length b) 2 long;
        short = most_done _ 65535 (length b) short;
        any = some_done _ (count_of b) any;
        few = most_done _ 64 (count_of b) few;
        whole = most_done _ (length b) (head_bytes (count_of b)) whole;
        entries = entries;
      })

  pub bundle_passes : Accepted rule b → Passes (bundle_checks rule b)
  unfolding bundle_order
  bundle_passes a =
      passing (bundle_order rule b)
      (done_most _ (length b) 2 a.long)
      (done_most _ 65535 (length b) a.short)
      (done_some _ (count_of b) a.any)
      (done_most _ 64 (count_of b) a.few)
      (done_most _ (length b) (head_bytes (count_of b)) a.whole)
      a.entries

-- entry i of an accepted bundle
pub record Good (rule : ℕ → Outcome) (i : ℕ) (b : List ℕ) : Type 0 where
  pub short : length b ≤ 65535
  pub head : head_bytes (i + 1) ≤ length b
  pub entry : Placed rule i (offset_at i b) b

pub good : (rule : ℕ → Outcome) (i : ℕ) (b : List ℕ) → bundle_checks rule b ≡ Ok tt → i < count_of b → Good rule i b
good rule i b e h =
    let a : Accepted rule b = accepted rule b e in
    let z : 0 + i ≡ i = omega arith in
    record {
      short = a.short;
      head = omega (arith, a.whole);
      entry = subst (λ (j : ℕ). Placed rule j (offset_at j b) b) z (all_placed rule (count_of b) 0 (head_bytes (count_of b)) b a.entries i h);
    }
