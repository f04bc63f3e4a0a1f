use Rattle.reading.specs.Laws.Places.{placed_within}
use Rattle.reading.specs.Laws.Refusals.{handed_on}
use Rattle.read_entries.specs.Laws.Readers.{outside_entry, searches_placed}
use Rattle.read_entries.proofs.find.search.Goals as goal

pub returns-in_err-c : goal.returns-in_err-c
returns-in_err-c c = rw (handed_on c.from_residual.ensures.1) (outside_entry c.in_err-c.ensures)

pub search-requires : goal.search-requires
search-requires c = placed_within c.in_ok-c.ensures

pub returns : goal.returns
returns c = searches_placed c.in_ok-c.ensures c.search.ensures
