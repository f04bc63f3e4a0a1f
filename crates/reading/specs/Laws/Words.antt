-- What the reader of a word tells, as the word's layout says it: document 01 tells a bad word at its first bit.
use Rattle.std.specs.Prelude.{Err, Bool, List, ℕ, length}
use Rattle.layout.specs.Layout.{PrefixFree, word, cut}
use Rattle.layout.proofs.Laws.Words.{dies_bad}
use Rattle.bits.specs.Cursor.{Within, Refuses}
use Rattle.bits.specs.declared.BitPos.{BitPos}
use Rattle.bits.specs.declared.Cursor.{Cursor}
use Rattle.read_words.specs.Told as Told
use Rattle.read_words.specs.Told.{ToldWord}
use Rattle.read_words.specs.declared.NoWord.{NoWord}
use Rattle.read_words.specs.declared.NoWord.TheVariants.{Cut, Bad}
use Rattle.reading.specs.Refusals.{refusal_number, why_no_word}

module _ {ok : ℕ → Type 0} {bits : ℕ → List Bool} {s : List ℕ} {c : Cursor} (w : Within c (length s)) where
  pub word_cut : ToldWord ok bits s c (Err Cut) → Refuses (word ok bits) s c 6 c.at
  word_cut (Told.cut k) = record { no = cut k; upto = w.order }

  pub word_bad : PrefixFree ok bits → {p : BitPos} → ToldWord ok bits s c (Err (Bad p)) → Refuses (word ok bits) s c 9 c.at
  word_bad free (Told.bad d l) = record { no = dies_bad free d; upto = w.order }

-- both, by the number of why there is none
pub word_refused : {ok : ℕ → Type 0} {bits : ℕ → List Bool} → PrefixFree ok bits → {s : List ℕ} {c : Cursor} → Within c (length s) → {e : NoWord}
    → ToldWord ok bits s c (Err e) → Refuses (word ok bits) s c (refusal_number (why_no_word e)) c.at
word_refused free w {e = Cut} t = word_cut w t
word_refused free w {e = Bad p} t = word_bad w free t
