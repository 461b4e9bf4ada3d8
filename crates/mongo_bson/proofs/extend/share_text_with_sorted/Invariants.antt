use Rattle.std.proofs.Common.{take}
use Rattle.std.specs.List.{All, Contains}
use Rattle.mongo_bson.specs.Keys.{bytes_of_texts}
use Rattle.mongo_bson.proofs.extend.share_text_with_sorted.Given as goal

abbrev pub invariant-loop-text : goal.invariant-loop-text
invariant-loop-text l = All (λ t. Contains (bytes_of_texts l.sorted) t.now → ⊥) (take l.text-index l.others)
