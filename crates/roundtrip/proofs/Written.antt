-- The sample bundles are written as they should be. Computed by the checker.
use mathlib.Core.Path.{◌≡◌, refl}
use mathlib.Core.List.{[], ◌∷◌}
use Rattle.std.specs.Prelude.{Ok}
use Rattle.words.specs.Words.{rows_of, flat, narrow}
use Rattle.wire.specs.Bytes.{bytes_of}
use Rattle.wire.specs.Kinds.{order, bytes_of_words}
use Rattle.refusals.specs.Checks.{too_many_rows, bad_columns, size_checks}
use Rattle.bundle.specs.Bundle.{body_words, kind_rule, both_kinds, bad_shape}
use Rattle.bundle.specs.Sample.{sample, mixed, matrices}
use Rattle.pack.specs.Encode.{head_of, contents_of, body_of, bodies_of, encode}
use Rattle.pack.specs.Writing.{given, shapes_checks, all_words, all_narrow, rest_order, write_order, written_by, written}

pub sample_written : encode (matrices 1) ≡ sample
unfolding sample matrices encode contents_of head_of bodies_of body_of bytes_of_words bytes_of order flat body_words
sample_written = refl

pub mixed_written : encode (matrices 2) ≡ mixed
unfolding mixed matrices encode contents_of head_of bodies_of body_of bytes_of_words bytes_of order flat body_words
mixed_written = refl

-- and the writer answers its length, in an output that has just the room
pub sample_answered : written both_kinds (1 ∷ 1 ∷ []) (2 ∷ 3 ∷ []) (2 ∷ 3 ∷ []) (3 ∷ 1 ∷ 6 ∷ 6 ∷ 0 ∷ []) 62 ≡ Ok 62
unfolding written_by write_order rest_order shapes_checks bad_shape size_checks too_many_rows bad_columns kind_rule all_words all_narrow narrow given rows_of body_words
sample_answered = refl
