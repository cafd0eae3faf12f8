-- The answers, by what a bundle means: refused, or the entry that was asked for.
use mathlib.Core.Path.{◌≡◌, refl, sym, ap, ◌∙◌, subst}
use mathlib.Core.Bool.{Bool, true, false}
use mathlib.Core.List.{List}
use Prim.Native.Nat.{ℕ, zero, suc, ◌+◌, ◌<◌, ◌≤◌}
use native.Mathlib.Omega.{arith}
use lib.ListN.{length, get_or}
use mir.Val.{Fits}
use mir.Syntax.{w8}
use borrow.Author.Tests.{eq-eqb, leb-true, leb-false}
use lib.Dec.{leb}
use Rattle.std.specs.Prelude.{Ok, Err}
use Rattle.wire.specs.Bytes.{Bytes}
use Rattle.wire.specs.Kinds.{words_at}
use Rattle.refusals.specs.declared.Refusal.{Refusal}
use Rattle.refusals.specs.declared.Refusal.TheVariants.{NotBelow}
use Rattle.refusals.specs.Outcome.{Outcome, refuse_if}
use Rattle.refusals.specs.Checks.{not_below}
use Rattle.refusals.proofs.Passed.{if_done}
use Rattle.bundle.specs.Bundle.{body_words, head_bytes, count_of, kind_at, rows_at, columns_at, offset_at, words_in, bundle_checks, entry_at, entries_from, entries_of, meant_by, meaning}
use Rattle.bundle.specs.Answers.{counted_in, Lookup, entry_in, find, told_of, fitting, lent_for, lent_entry, unpacked_of}
use Rattle.bundle.specs.Steps.{head_at, Found}
use Rattle.bundle.specs.declared.Numbers.{Numbers}
use Rattle.bundle.specs.declared.ruled.Head.{Head}
use Rattle.bundle.proofs.Passing.{accepted, Good, good}
use Rattle.bundle.proofs.Bodies.{two_bytes, flat_matrix}

-- ---- n entries from entry j on

pub count_from : (n j : ℕ) (b : List ℕ) → length (entries_from n j b) ≡ n
unfolding entries_from
count_from zero j b = refl
count_from (suc n) j b = ap suc (count_from n (j + 1) b)

pub entry_from : (n i j : ℕ) (b : List ℕ) → i < n → entry_in i (entries_from n j b) ≡ Ok (entry_at (j + i) b)
unfolding entry_in entries_from
entry_from zero i j b h = absurd (omega arith)
entry_from (suc n) zero j b h =
    let z : j ≡ j + 0 = omega arith in
    ap (λ (k : ℕ). Ok (entry_at k b)) z
entry_from (suc n) (suc i) j b h =
    let z : j + 1 + i ≡ j + suc i = omega arith in
    entry_from n i (j + 1) b (omega arith) ∙ ap (λ (k : ℕ). Ok (entry_at k b)) z

pub entry_past : (n i j : ℕ) (b : List ℕ) → n ≤ i → entry_in i (entries_from n j b) ≡ Err NotBelow
unfolding entry_in entries_from
entry_past zero zero j b h = refl
entry_past zero (suc i) j b h = refl
entry_past (suc n) zero j b h = absurd (omega arith)
entry_past (suc n) (suc i) j b h = entry_past n i (j + 1) b (omega arith)

-- ---- what is found in a bundle; o is the outcome of its checks, n its count

module _ (rule : ℕ → Outcome) (b : List ℕ) (o : Outcome) (eo : o ≡ bundle_checks rule b) where
  meant : (v : Outcome) → o ≡ v → meaning rule b ≡ meant_by v (entries_of b)
  unfolding meaning
  meant v e = ap (λ (x : Outcome). meant_by x (entries_of b)) (sym eo ∙ e)

  pub find_refused : (i : ℕ) (r : Refusal) → o ≡ Err r → find i (meaning rule b) ≡ Err r
  unfolding find
  find_refused i r e = ap (find i) (meant (Err r) e)

  module _ (e : o ≡ Ok tt) where
    pub two_bytes_long : 2 ≤ length b
    two_bytes_long = (accepted rule b (sym eo ∙ e)).long

    module _ (n : ℕ) (en : n ≡ count_of b) where
      pub counted_entries : Ok n ≡ counted_in (meaning rule b)
      unfolding counted_in entries_of
      counted_entries = ap Ok (en ∙ sym (count_from (count_of b) 0 b)) ∙ sym (ap counted_in (meant (Ok tt) e))

      pub find_past : (i : ℕ) → n ≤ i → find i (meaning rule b) ≡ Err NotBelow
      unfolding find entries_of
      find_past i h = ap (find i) (meant (Ok tt) e) ∙ entry_past (count_of b) i 0 b (subst (λ (x : ℕ). x ≤ i) en h)

      pub find_entry : (i : ℕ) → i < n → find i (meaning rule b) ≡ Ok (entry_at i b)
      unfolding find entries_of
      find_entry i h =
          let z : 0 + i ≡ i = omega arith in
          ap (find i) (meant (Ok tt) e) ∙ entry_from (count_of b) i 0 b (subst (λ (x : ℕ). i < x) en h) ∙ ap (λ (k : ℕ). Ok (entry_at k b)) z

      pub good_entry : (i : ℕ) → i < n → Good rule i b
      good_entry i h = good rule i b (sym eo ∙ e) (subst (λ (x : ℕ). i < x) en h)

      -- q is the outcome of looking whether there is an entry i
      module _ (i : ℕ) (q : Outcome) (eq : q ≡ not_below i n) where
        pub none_there : {r : Refusal} → q ≡ Err r → find i (meaning rule b) ≡ Err r
        unfolding not_below
        none_there {r} z = go (leb n i) refl (sym eq ∙ z)
          where
            go : (t : Bool) → leb n i ≡ t → refuse_if t NotBelow ≡ Err r → find i (meaning rule b) ≡ Err r
            go true l f = find_past i (leb-true n i l) ∙ cc
            go false l f = cc

        one_there : q ≡ Ok tt → i < n
        unfolding not_below
        one_there z = leb-false n i (if_done (leb n i) NotBelow (sym eq ∙ z))

        pub head_inside : q ≡ Ok tt → head_bytes (i + 1) ≤ length b
        head_inside z = (good_entry i (one_there z)).head

        pub is_found : {h : Head} → q ≡ Ok tt → h ≡ head_at i b → Found rule i b h
        is_found z eh = record { there = find_entry i (one_there z); placed = (good_entry i (one_there z)).entry; same = eh }

-- ---- h is what the contents say of entry i

module _ {rule : ℕ → Outcome} {i : ℕ} {b : List ℕ} {h : Head} (F : Found rule i b h) where
  -- each of its numbers has two bytes
  pub numbers_small : ((j : ℕ) → Fits w8 (get_or b j 0)) → (h.kind < 65536) × (h.rows < 65536) × (h.columns < 65536)
  numbers_small f =
      let k : h.kind ≡ kind_at i b = ap (λ (x : Head). x.kind) F.same in
      let r : h.rows ≡ rows_at i b = ap (λ (x : Head). x.rows) F.same in
      let c : h.columns ≡ columns_at i b = ap (λ (x : Head). x.columns) F.same in
      (omega (arith, two_bytes (head_bytes i) b f), omega (arith, two_bytes (head_bytes i + 2) b f), omega (arith, two_bytes (head_bytes i + 4) b f))

-- as many words are lent as the body of an entry has: they take its rows

pub lent_fit : (n : ℕ) (F : Lookup) (i : ℕ) (b : List ℕ) → F ≡ Ok (entry_at i b) → n ≡ words_in i b → lent_for n F ≡ Ok (entry_at i b)
unfolding lent_for entry_at
lent_fit n F i b e z = ap (lent_for n) e ∙ ap (λ (t : Bool). fitting t (entry_at i b)) (eq-eqb n (words_in i b) z)

module _ {rule : ℕ → Outcome} {i : ℕ} {b : List ℕ} {h : Head} (F : Found rule i b h) (ws : List ℕ) (ew : length ws ≡ body_words h.rows h.columns) where
  lent : lent_entry rule i b ws ≡ Ok (entry_at i b)
  lent = lent_fit (length ws) _ i b F.there (ew ∙ ap (λ (x : Head). body_words x.rows x.columns) F.same)

  pub unpacked : {n : Numbers} {out : List ℕ} → Bytes b → n ≡ record { kind = h.kind; rows = h.rows; columns = h.columns }
      → out ≡ words_at h.kind h.offset (length ws) b → (Ok n ≡ told_of (lent_entry rule i b ws)) × (out ≡ unpacked_of (lent_entry rule i b ws) ws)
  unfolding told_of unpacked_of entry_at
  unpacked {n} {out} f en eo = (
    ap Ok (en ∙ ap (λ (x : Head). record { kind = x.kind; rows = x.rows; columns = x.columns }) F.same) ∙ sym (ap told_of lent),
    eo ∙ ap (λ (k : ℕ). words_at h.kind h.offset k b) ew ∙ ap (λ (x : Head). words_at x.kind x.offset (body_words x.rows x.columns) b) F.same
        ∙ sym (flat_matrix (kind_at i b) (offset_at i b) (rows_at i b) (columns_at i b) b f) ∙ sym (ap (λ (x : Lookup). unpacked_of x ws) lent),
  )
