use Rattle.std.proofs.Common.{MatchOption, string_bytes, sym, subst}
use Rattle.mongo_bench.specs.Task.{AsksTask, AsksNothing}
use Rattle.mongo_bench.proofs.FourWords.{four_words}
use Rattle.mongo_bench.proofs.task.task_of.Goals as goal

pub returns-in-len4 : goal.returns-in-len4
returns-in-len4 c =
    let words = four_words string_bytes c.args.words.now c.name-item-then-words-lt5.result c.direction-item.result c.size-item.result c.count-item-then-words-lt5.result
    c.as_str-in-len4.result.now c.as_str-in-len4-2.result.now c.as_str-in-len4-3.result.now c.as_str-in-len4-4.result.now
    c.in-len4.len_at_least c.in-len4.len_below c.name-item-then-words-lt5.is c.direction-item.is c.size-item.is c.count-item-then-words-lt5.is
    c.as_str-in-len4.ensures.value c.as_str-in-len4-2.ensures.value c.as_str-in-len4-3.ensures.value c.as_str-in-len4-4.ensures.value in
    subst (λ texts. MatchOption c.frames_of.result (AsksNothing texts) (AsksTask texts)) (sym words) c.frames_of.ensures
