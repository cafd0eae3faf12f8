-- The bytes of a bundle: the count, ten bytes for each entry, then the bodies in order.
use Rattle.std.specs.Prelude.{List, [], ◌∷◌, ◌++◌, ℕ, ◌+◌, ◌*◌, length}
use Rattle.words.specs.Words.{words_of, flat}
use Rattle.wire.specs.Bytes.{bytes_of}
use Rattle.wire.specs.Kinds.{bytes_of_words}
use Rattle.bundle.specs.Bundle.{Entry, body_words, head_bytes}

-- an entry's ten bytes; its body begins at byte p
unfoldable pub head_of : ℕ → ℕ → ℕ → ℕ → List ℕ
head_of kind rows columns p = bytes_of 2 kind ++ (bytes_of 2 rows ++ (bytes_of 2 columns ++ bytes_of 4 p))

-- the contents of entries whose bodies begin at byte p
unfoldable pub contents_of : ℕ → List Entry → List ℕ
contents_of p [] = []
contents_of p (e ∷ es) = head_of e.kind e.rows e.columns p ++ contents_of (p + 8 * body_words e.rows e.columns) es

-- an entry's body: its rows, word by word in the order of its kind
unfoldable pub body_of : Entry → List ℕ
body_of e = bytes_of_words e.kind (flat (words_of e.columns) e.matrix)

unfoldable pub bodies_of : List Entry → List ℕ
bodies_of [] = []
bodies_of (e ∷ es) = body_of e ++ bodies_of es

unfoldable pub encode : List Entry → List ℕ
encode es = bytes_of 2 (length es) ++ (contents_of (head_bytes (length es)) es ++ bodies_of es)
