-- The numbers of the readers' refusals.
use Rattle.std.specs.Prelude.{ℕ}
use Rattle.read_words.specs.declared.NoWord.{NoWord}
use Rattle.read_words.specs.declared.NoWord.TheVariants.{Cut, Bad}
use Rattle.reading.specs.declared.Refusal.{Refusal}
use Rattle.reading.specs.declared.Refusal.TheVariants.{NoRoom, CutShort, Unknown, TooMany, BadWord, OutOfRange, Unclean, Outside, Beyond}

-- "What comes back": the table's first column
abbrev pub refusal_number : Refusal → ℕ
refusal_number NoRoom = 5
refusal_number CutShort = 6
refusal_number Unknown = 7
refusal_number TooMany = 8
refusal_number BadWord = 9
refusal_number OutOfRange = 10
refusal_number Unclean = 11
refusal_number Outside = 12
refusal_number Beyond = 13

-- "a field .. cut short", or bits that begin no word
abbrev pub why_no_word : NoWord → Refusal
why_no_word Cut = CutShort
why_no_word (Bad p) = BadWord
