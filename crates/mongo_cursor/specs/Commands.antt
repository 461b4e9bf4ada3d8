-- The commands of a cursor, by the server's documentation of getMore and of killCursors.
use Rattle.std.specs.Prelude.{ℕ, ℤ, None, List, [], ◌∷◌, codes}
use Rattle.mongo_bson.specs.Document.{Element}
use Rattle.mongo_command.specs.Literal.{text_element, int64_element, array_element, document_of}
use Rattle.mongo_command.specs.Command.{command_of}
use Rattle.mongo_command.specs.declared.command.Command.{Command}
use Rattle.mongo_cursor.specs.declared.namespace.Namespace.{Namespace}

-- the next batch of the cursor of this id
abbrev pub get_more_elements : Namespace → ℤ → List Element
get_more_elements namespace id = int64_element (codes "getMore") id ∷ (text_element (codes "collection") namespace.collection ∷ [])

abbrev pub get_more_command : Namespace → ℤ → Command
get_more_command namespace id = command_of (codes "getMore") namespace.db (document_of (get_more_elements namespace id)) None

-- the cursor of this id is closed
abbrev pub cursors_array : ℤ → List ℕ
cursors_array id = document_of (int64_element (codes "0") id ∷ [])

abbrev pub kill_command : Namespace → List ℕ → Command
kill_command namespace cursors = command_of (codes "killCursors") namespace.db (document_of (text_element (codes "killCursors") namespace.collection ∷ (array_element (codes "cursors") cursors ∷ []))) None

abbrev pub kill_cursors_command : Namespace → ℤ → Command
kill_cursors_command namespace id = kill_command namespace (cursors_array id)
