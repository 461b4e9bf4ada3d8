use Rattle.std.proofs.Common.{◌∙◌, ap, subst}
use Rattle.mongo_bson.specs.Keys.{Fill, bytes_of_texts}
use Rattle.mongo_bson.proofs.Searched.{tells_shared}
use Rattle.mongo_bson.proofs.extend.share_key.Goals as goal

pub returns-clause-shared : goal.returns-clause-shared
returns-clause-shared c =
    let mine = c.in_ok-mine.ensures.keys in
    let others = c.in_ok-others.ensures.keys in
    let fill = subst (λ w. Fill w mine.0) c.element_bytes.ensures mine.1 in
    let fill_other = subst (λ w. Fill w others.0) c.element_bytes-2.ensures others.1 in
    tells_shared c.args.this.now c.args.other.now mine.0 others.0 (bytes_of_texts c.as_mut_slice.result.now) (bytes_of_texts c.as_mut_slice-2.result.now) c.share_text.result fill fill_other (ap bytes_of_texts c.as_mut_slice.ensures.value ∙ mine.2) (ap bytes_of_texts c.as_mut_slice-2.ensures.value ∙ others.2) c.share_text.ensures
