use Rattle.mbac_io.proofs.DeviceLemmas.{rose-after, appends-nothing, appends-appends, part-first, part-next}
use Rattle.mbac_io.proofs.pieces.pieces_make_a_text.Goals as goal

pub returns : goal.returns
returns c = record {
  whole = appends-appends;
  part_of_first = part-first;
  part_of_next = part-next;
  nothing = appends-nothing;
  rose_later = rose-after;
}
