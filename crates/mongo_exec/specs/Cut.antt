-- How a list of documents is cut into batches, by what the server takes at once.
use Rattle.std.specs.Prelude.{◌≡◌, ℕ, pos, ◌≤◌, ◌≤ℤ◌, List, [], ◌∷◌, ◌++◌, length, take}
use Rattle.mongo_command.specs.declared.stream_description.StreamDescription.{StreamDescription}
use Rattle.mongo_exec.specs.Insert.{Insert, insert_size}

-- the documents are a batch that the server takes: no more than it takes at once, in a frame that isn't longer than it takes
pub record IsTaken (description : StreamDescription) (insert : Insert) (documents : List (List ℕ)) : Type 0 where
  pub few : pos (length documents) ≤ℤ description.max_write_batch_size
  pub short : pos (insert_size insert documents) ≤ℤ description.max_message_size_bytes

-- The batch is the greatest number of documents from the front that the server takes, and the rest is what follows it.
pub record IsFirstBatch (description : StreamDescription) (insert : Insert) (documents batch rest : List (List ℕ)) : Type 0 where
  pub joined : documents ≡ batch ++ rest
  pub taken : IsTaken description insert batch
  pub greatest : (n : ℕ) → n ≤ length documents → IsTaken description insert (take n documents) → n ≤ length batch

-- The batches are the first of the documents' cut, and the rest is what follows them; where nothing does, they are all of it.
abbrev pub IsCutTo : StreamDescription → Insert → List (List ℕ) → List (List (List ℕ)) → List (List ℕ) → Type 0
IsCutTo description insert documents [] rest = documents ≡ rest
IsCutTo description insert documents (batch ∷ batches) rest = (more : List (List ℕ)) × IsFirstBatch description insert documents batch more × IsCutTo description insert more batches rest
