-- How a batch is begun.
use Rattle.std.specs.Prelude.{◌≡◌, ◌≢◌, ◌↔◌, pos, List, [], ◌++◌}
use Rattle.mongo_cursor.specs.Cursors.{held, handed_out}
use Rattle.mongo_cursor.specs.declared.batch.Batch.{Batch}
use Rattle.mongo_cursor.specs.declared.cursor.Cursor.{Cursor}
use Rattle.mongo_cursor.specs.declared.cursor.Advance.{Advance}
use Rattle.mongo_cursor.specs.declared.cursor.Advance.TheVariants.{Empty, End}

-- its first document is handed out, and the rest is held
pub record BeginsBatch (batch : Batch) (advance : Advance) (before after : Cursor) : Type 0 where
  pub joined : batch.documents ≡ handed_out advance ++ held after
  pub after_is : after ≡ record before { id = batch.id; held = held after }
  pub end : (advance ≡ End) ↔ ((batch.documents ≡ []) × (batch.id ≡ pos 0))
  pub empty : (advance ≡ Empty) ↔ ((batch.documents ≡ []) × (batch.id ≢ pos 0))
