-- The records that are written.
use Rattle.std.specs.Prelude.{◌≡◌, List, ℤ}
use Rattle.format.specs.Kinds.{Family, family_of}
use Rattle.format.specs.Records.{Valid}
use Rattle.headings.specs.declared.Heading.{Heading}
use Rattle.headings.specs.Headings.{kind_of, headed}

-- a valid record of a family
pub record ValidFor (f : Family) (h : Heading) (vs : List ℤ) : Type 0 where
  pub valid : Valid (headed h vs)
  pub family : family_of (kind_of h.kind) ≡ f
