-- Document 01's listing of P1, whole. That it is the listing of P1's message is computed: proofs/Cases.antt.
-- Assumes nothing.
use Rattle.std.specs.Prelude.{◌≡◌, List, [], ◌∷◌, ◌++◌, ℕ}
use Prim.Native.Char.{code}
use Prim.Native.String as S
use Rattle.rules.specs.Cases.{p1}
use Rattle.listing.specs.Lines.{line_feed}
use Rattle.listing.specs.Listing.{listing}

-- The bytes of text in ASCII, and of lines of it.
unfoldable pub ascii : S.String → List ℕ
ascii S.[] = []
ascii (S.◌∷◌ c text) = code c ∷ ascii text

unfoldable pub ascii_lines : List S.String → List ℕ
ascii_lines [] = []
ascii_lines (line ∷ lines) = ascii line ++ (line_feed ++ ascii_lines lines)

abbrev pub p1_lines : List S.String
p1_lines =
    "result=0"
    ∷ "place=0"
    ∷ "bytes=32"
    ∷ "handles=0"
    ∷ "objects=2"
    ∷ "values=6"
    ∷ "object=1,4,0,16"
    ∷ "object=4,4,16,16"
    ∷ "value=2"
    ∷ "value=1"
    ∷ "value=2"
    ∷ "value=1"
    ∷ "value=100"
    ∷ "value=65533"
    ∷ []

abbrev pub P1Listed : Type 0
P1Listed = listing p1 ≡ ascii_lines p1_lines
