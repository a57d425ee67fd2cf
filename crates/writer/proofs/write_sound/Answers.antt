-- What the search leaves of `write_sound`.
use Rattle.std.proofs.Common.{rules}
use Rattle.writer.proofs.Laws.{sound_laws}
use Rattle.writer.proofs.write_sound.Goals as goal

pub overflow_add-size : goal.overflow_add-size
overflow_add-size c = search (sound_laws, rules)

pub overflow_add-size-2 : goal.overflow_add-size-2
overflow_add-size-2 c = search (sound_laws, rules)

pub returns-then-size-data_length : goal.returns-then-size-data_length
returns-then-size-data_length c = search (sound_laws, rules)

pub slice_bounds-text-end : goal.slice_bounds-text-end
slice_bounds-text-end c = search (sound_laws, rules)

pub slice_bounds-put_text-end : goal.slice_bounds-put_text-end
slice_bounds-put_text-end c = search (sound_laws, rules)

pub returns : goal.returns
returns c = search (sound_laws, rules)
