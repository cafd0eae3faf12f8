-- What unpacking a bundle entry by entry gives: the lists that the writer takes.
use Rattle.std.specs.Prelude.{◌≡◌, refl, List, [], ◌∷◌, ◌++◌, map, ℕ, take, drop, get_or}
use Rattle.words.specs.Words.{words_of, flat}
use Rattle.bundle.specs.Bundle.{Entry, body_words}
use Rattle.pack.specs.Writing.{all_words}

-- the lists of their numbers
abbrev pub kinds_of : List Entry → List ℕ
kinds_of es = map (λ (e : Entry). e.kind) es

abbrev pub row_counts_of : List Entry → List ℕ
row_counts_of es = map (λ (e : Entry). e.rows) es

abbrev pub column_counts_of : List Entry → List ℕ
column_counts_of es = map (λ (e : Entry). e.columns) es

-- the words of all bodies in the order of kind 1, one body after the other
unfoldable pub words_of_all : List Entry → List ℕ
words_of_all [] = []
words_of_all (e ∷ es) = flat (words_of e.columns) e.matrix ++ words_of_all es

-- where the words of entry i begin, among those given for all entries
abbrev pub start_of : ℕ → List ℕ → List ℕ → ℕ
start_of i rs cs = all_words (take i rs) (take i cs)

-- behind an entry of 2 rows of 65 columns the next one begins at word 4
pub second_start : start_of 1 (2 ∷ 3 ∷ []) (65 ∷ 1 ∷ []) ≡ 4
unfolding all_words body_words
second_start = refl

-- the words given for entry i
abbrev pub words_given : ℕ → List ℕ → List ℕ → List ℕ → List ℕ
words_given i rs cs ws = take (body_words (get_or rs i 0) (get_or cs i 0)) (drop (start_of i rs cs) ws)
