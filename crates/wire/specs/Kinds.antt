-- The two orders of bits in a word. Kind 1 has column c at weight 2 ^ (c mod 64), kind 2 at weight 2 ^ (63 - c mod 64).
use Rattle.std.specs.Prelude.{cond, List, [], ◌∷◌, ◌++◌, ℕ, zero, suc, ◌+◌, ◌*◌, ◌/◌, ◌%◌, ◌^◌, eqb}
use Rattle.wire.specs.Bytes.{num, bytes_of}

-- the lowest k bits, in reverse
unfoldable pub reversed : ℕ → ℕ → ℕ
reversed zero x = 0
reversed (suc k) x = x % 2 * 2 ^ k + reversed k (x / 2)

-- a word of a kind in the order of kind 1; and back
unfoldable pub order : ℕ → ℕ → ℕ
unfolding reversed
order kind x = cond (eqb kind 2) (reversed 64 x) x

-- the n words of a kind from byte p on, in the order of kind 1
unfoldable pub words_at : ℕ → ℕ → ℕ → List ℕ → List ℕ
words_at kind p zero b = []
words_at kind p (suc n) b = order kind (num 8 p b) ∷ words_at kind (p + 8) n b

-- words in the order of kind 1 as the bytes of a kind
unfoldable pub bytes_of_words : ℕ → List ℕ → List ℕ
bytes_of_words kind [] = []
bytes_of_words kind (x ∷ ws) = bytes_of 8 (order kind x) ++ bytes_of_words kind ws
