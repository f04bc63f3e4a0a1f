-- What a reader asks for, and what a code asks of a kind.
use Rattle.std.specs.Prelude.{◌≡◌, Option, Some, None}
use Rattle.format.specs.Kinds as Kinds
use Rattle.format.specs.Records as Records
use Rattle.headings.specs.Headings.{kind_of}
use Rattle.headings.specs.declared.Kind.{Kind}

-- what is asked for, as document 01's definitions say it: a kind, or any
abbrev pub wanted_of : Option Kind → Records.Wanted
wanted_of None = Records.Any
wanted_of (Some t) = Records.This (kind_of t)

-- a code and a kind that go together: not "code 5 without kind 1"
abbrev pub Goes : Records.Code → Kinds.Kind → Type 0
Goes x t = x ≡ Records.Interpolative → t ≡ Kinds.Instants
