-- A record's bits, by its heading and its list.
use Rattle.std.specs.Prelude.{Bool, List, ◌++◌, map, ℕ, ◌+◌, ℤ, length}
use Rattle.layout.specs.Bits.{in_bits}
use Rattle.format.specs.Codes.{gamma}
use Rattle.format.specs.Kinds.{kind_number, natural}
use Rattle.format.specs.Interpolative.{interpolative}
use Rattle.format.specs.Records.{code_number, body, any_record}
use Rattle.headings.specs.Headings.{code_of, carried, carried_width, kind_of, headed}
use Rattle.headings.specs.declared.Heading.{Heading}

unfoldable pub record_image : Heading → List ℤ → List Bool
record_image h vs = any_record.bits (headed h vs)

-- "code number in 4 bits; kind in 2; for Rice k in 5;"
unfoldable pub front : Heading → List Bool
front h = in_bits 4 (code_number (code_of h.code)) ++ (in_bits 2 (kind_number (kind_of h.kind)) ++ in_bits (carried_width h.code) (carried h.code))

-- "gamma of (count + 1)"
unfoldable pub heading_image : Heading → ℕ → List Bool
heading_image h n = front h ++ gamma (n + 1)

-- "the body"
unfoldable pub body_image : Heading → List ℤ → List Bool
body_image h vs = (body (code_of h.code) (carried h.code) (kind_of h.kind) (length vs)).bits vs

-- that of code 5
abbrev pub by_halves : List ℤ → List Bool
by_halves vs = (interpolative (length vs)).bits (map natural vs)
