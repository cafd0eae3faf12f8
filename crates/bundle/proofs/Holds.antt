-- The sample is read as it should be, and each damaged bundle is refused as it should be. Computed by the checker.
use mathlib.Core.Path.{◌≡◌, refl}
use mathlib.Core.List.{[], ◌∷◌, map}
use Prim.Native.Nat.{◌+◌, ◌^◌}
use Rattle.words.specs.Words.{rows_of, narrow}
use Rattle.wire.specs.Bytes.{num}
use Rattle.wire.specs.Kinds.{order, words_at}
use Rattle.std.specs.Prelude.{Ok}
use Rattle.refusals.specs.Outcome.{outcome_number}
use Rattle.refusals.specs.Checks.{too_many_rows, bad_columns, size_checks}
use Rattle.bundle.specs.Bundle.{body_words, matrix_at, kind_rule, both_kinds, bad_shape, body_order, entry_order, entries_checks, bundle_order, entry_at, entries_from, entries_of, meaning}
use Rattle.bundle.specs.Answers.{counted_in}
use Rattle.bundle.specs.Sample.{sample, mixed, matrices, Example, table}

pub sample_means : meaning both_kinds sample ≡ Ok (matrices 1)
unfolding sample matrices meaning bundle_order entries_checks entry_order body_order bad_shape size_checks too_many_rows bad_columns kind_rule
    matrix_at body_words narrow rows_of words_at order num entries_of entries_from entry_at
sample_means = refl

-- column 0 of kind 2 has weight 2 ^ 63, and the matrix is the same
pub mixed_words : words_at 1 22 2 mixed ≡ (2 ^ 63 + 2 ^ 62) ∷ (2 ^ 63) ∷ []
unfolding mixed words_at order num
mixed_words = refl

pub mixed_means : meaning both_kinds mixed ≡ Ok (matrices 2)
unfolding mixed matrices meaning bundle_order entries_checks entry_order body_order bad_shape size_checks too_many_rows bad_columns kind_rule
    matrix_at body_words narrow rows_of words_at order num entries_of entries_from entry_at
mixed_means = refl

pub table_holds : map (λ (e : Example). outcome_number (counted_in (meaning both_kinds e.bytes))) table ≡ map (λ (e : Example). e.number) table
unfolding table meaning bundle_order entries_checks entry_order body_order bad_shape size_checks too_many_rows bad_columns kind_rule
    matrix_at body_words narrow rows_of words_at order num entries_of entries_from entry_at counted_in
table_holds = refl
