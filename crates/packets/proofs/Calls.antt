-- Solving past its checks, by what is read off the reduced packets.
use mathlib.Core.Path.{◌≡◌, refl, ap, subst}
use mathlib.Core.Logic.{inl, inr}
use mathlib.Core.List.{List}
use Prim.Native.Nat.{ℕ, ◌+◌, ◌-◌, ◌^◌, ◌≤◌, ◌<◌}
use native.Mathlib.Omega.{arith}
use lib.ListN.{length}
use lib.Pow.{pow_pos}
use Rattle.gf2.specs.Rows.{row}
use Rattle.gf2.specs.Additions.{additions}
use Rattle.gf2.proofs.Space.{same_narrow}
use Rattle.words.specs.Words.{value, words_of, rows_of, Clean}
use Rattle.images.specs.ReadOff.{unknown_block}
use Rattle.std.specs.Prelude.{Result, Ok, Err}
use Rattle.refusals.specs.declared.Refusal.{Refusal}
use Rattle.refusals.specs.declared.Refusal.TheVariants as refusal
use Rattle.refusals.specs.declared.Unfit.{Unfit}
use Rattle.refusals.specs.Checks.{SolvingPasses, ReductionPasses}
use Rattle.engine.specs.declared.Eliminated.{Eliminated}
use Rattle.engine.specs.Core.{ReducedTo, TwoSlices}
use Rattle.matrix.specs.Calls.{TableCleared}
use Rattle.matrix.specs.declared.Answer.{Answer}
use Rattle.matrix.proofs.Calls.{told, told_answer, eliminated, taken}
use Rattle.readoff.specs.declared.Unsolved.{Unsolved}
use Rattle.readoff.specs.declared.Unsolved.TheVariants as unsolved
use Rattle.readoff.specs.ReadOff.{Blocks, Shown, BlocksRead}
use Rattle.readoff.proofs.Clean.{image_rows}
use Rattle.packets.specs.Solving.{Solving}
use Rattle.packets.proofs.Images.{unmet, solved}

module _ (rows columns n k : ℕ) (m image marks room : List ℕ) (passes : SolvingPasses rows columns n k m (length image) (length marks) (length room)) where
  -- what passes for solving passes for the reduction
  reducible : ReductionPasses rows columns k m (length room)
  reducible = record { sized = passes.sized; window = passes.window; exact = passes.exact; roomy = passes.roomy; clean = passes.clean }

module _ (rows columns n k : ℕ) (m image marks room : List ℕ) (passes : SolvingPasses rows columns n k m (length image) (length marks) (length room))
    (d : Result Eliminated Unfit) (e : Eliminated) (is : d ≡ Ok e) (list m' room' list' : List ℕ) (l : length list ≡ 512) (l' : length list' ≡ 512) (lm : length m' ≡ length m)
    (t : TwoSlices d rows columns k m room list m' room' list') where
  abbrev L : List ℕ
  L = rows_of (words_of columns) rows m

  abbrev N : List ℕ
  N = rows_of (words_of columns) rows m'

  found : ReducedTo (additions k columns) L N e list' × TableCleared columns k room room'
  found = eliminated rows columns k m room (reducible rows columns n k m image marks room passes) d e list m' room' list' l is t

  payload_end : columns ≡ n + (columns - n)
  payload_end = omega (arith, passes.parted.payload)

  narrow : (i : ℕ) → row L i < 2 ^ (n + (columns - n))
  narrow i = subst (λ (x : ℕ). row L i < 2 ^ x) payload_end (passes.clean i)

  clean : Clean rows columns m'
  clean = same_narrow columns L N found.0.form.space passes.clean

  module _ (unknown : List ℕ) (none : value unknown ≡ unknown_block) (wide : 16 ≤ length unknown) where
    module _ (image' marks' : List ℕ) where
      pub known : (x : ℕ) → BlocksRead (Ok x) rows columns n m' unknown image marks image' marks'
          → Solving unknown_block (additions k columns) rows columns n m image marks (Ok (told x e list')) m' image' marks' × TableCleared columns k room room'
      known x s =
          let form = found.0.form in
          let X = rows_of (words_of (columns - n)) n image' in
          let shown = subst (λ (u : ℕ). Shown u n (words_of (columns - n)) N image' marks') none s.2 in
          let is-solved = solved n (columns - n) L N narrow form unknown_block (pow_pos (columns - n)) (omega (arith, passes.parted.payload)) in
          let rows_are = image_rows rows columns m' clean unknown_block n (omega (arith, passes.parted.payload)) (pow_pos (columns - n)) image' marks' shown in (
            record {
              reduced = form;
              answered = inl (record {
                solved = is-solved s.1 X marks' x rows_are s.2.marks_are s.3;
                answered = ap Ok (told_answer x (additions k columns) N e list' l' found.0);
              });
            },
            found.1,
          )

      pub refuted : BlocksRead (Err unsolved.Contradictory) rows columns n m' unknown image marks image' marks'
          → Solving unknown_block (additions k columns) rows columns n m image marks (Err refusal.Contradictory) m' image' marks' × TableCleared columns k room room'
      refuted s = (
        record {
          reduced = found.0.form;
          answered = inr (record { unmet = unmet n (columns - n) L N narrow found.0.form s.1; answered = refl; image_kept = s.2; marks_kept = s.3 });
        },
        found.1,
      )

-- what is read tells the answer
abbrev pub answer_for : Result Eliminated Unfit → List ℕ → Result ℕ Unsolved → Result Answer Refusal
answer_for (Ok e) list (Ok x) = Ok (told x e list)
answer_for (Ok e) list (Err s) = Err refusal.Contradictory
answer_for (Err u) list s = Err refusal.Contradictory

module _ (rows columns n k : ℕ) (m image marks room : List ℕ) (passes : SolvingPasses rows columns n k m (length image) (length marks) (length room))
    (d : Result Eliminated Unfit) (list m' room' list' : List ℕ) (l : length list ≡ 512) (l' : length list' ≡ 512) (lm : length m' ≡ length m)
    (t : TwoSlices d rows columns k m room list m' room' list') where
  module _ (unknown : List ℕ) (none : value unknown ≡ unknown_block) (wide : 16 ≤ length unknown) where
    blocks : Blocks rows columns n m' (length unknown) (length image) (length marks)
    blocks = record {
      packets = record { matrix = record { wide = passes.sized.wide; held = omega (arith, passes.exact) }; blocks = omega (arith, passes.parted.payload) };
      filled = omega (arith, passes.sized.wide);
      fitting = passes.fitting;
      marked = passes.marked;
    }

    module _ (image' marks' : List ℕ) (r : Result Answer Refusal) where
      abbrev Ends : Type 0
      Ends = Solving unknown_block (additions k columns) rows columns n m image marks r m' image' marks' × TableCleared columns k room room'

      ended : (e : Eliminated) → d ≡ Ok e → (s : Result ℕ Unsolved) → BlocksRead s rows columns n m' unknown image marks image' marks' → r ≡ answer_for (Ok e) list' s → Ends
      ended e is (Ok x) s a = rw a (known rows columns n k m image marks room passes d e is list m' room' list' l l' lm t unknown none wide image' marks' x s)
      ended e is (Err unsolved.Contradictory) s a = rw a (refuted rows columns n k m image marks room passes d e is list m' room' list' l l' lm t unknown none wide image' marks' s)
      ended e is (Err unsolved.Unfit) s a = absurd (s.0 blocks)

      -- whatever is read, the answer is the one that is promised
      pub solved_whole : (s : Result ℕ Unsolved) → BlocksRead s rows columns n m' unknown image marks image' marks' → r ≡ answer_for d list' s → Ends
      solved_whole s h a =
          let took = taken rows columns k m room (reducible rows columns n k m image marks room passes) d list m' room' list' l t in
          ended took.0 took.1 s h (subst (λ (x : Result Eliminated Unfit). r ≡ answer_for x list' s) took.1 a)
