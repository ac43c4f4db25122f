-- What the record of ids means. Assumes nothing.
use Rattle.ids.specs.Ids.{Ids, ids_of}
use Rattle.ids.specs.declared.record.IdStorage.{IdStorage}

abbrev pub ids : IdStorage → Ids
ids s = ids_of s.upper_bound s.removed_ids.len s.removed_ids.ids
