use Rattle.std.proofs.Common.{List, ℕ, [], Bor, refl, sym, subst, ◌∙◌}
use Rattle.std.specs.List.{All, Contains}
use Rattle.std.proofs.lemmas.Bool.{false≢true}
use Rattle.std.proofs.lemmas.List.{take_all}
use Rattle.std.proofs.lemmas.List.Elements.{All-more}
use Rattle.mongo_bson.specs.Keys.{bytes_of_texts}
use Rattle.mongo_bson.proofs.Searched.{common_text, none_common}
use Rattle.mongo_bson.proofs.extend.share_text_with_sorted.Goals as goal

pub returns-then-holds_text : goal.returns-then-holds_text
returns-then-holds_text c =
    (λ _. common_text c.args.sorted.now c.args.others.now c.loop-text.text-index _ c.loop-text-test.true (c.holds_text.ensures.0 c.if-holds_text.true), λ _. refl)

pub loop-text-preserved : goal.loop-text-preserved
loop-text-preserved c =
    let d : Bor (List ℕ) = record { ref_ptr = (0, 0); now = [] } in
    All-more (λ t. Contains (bytes_of_texts c.args.sorted.now) t.now → ⊥) c.args.others.now c.loop-text.text-index d c.loop-text-test.true c.loop-text.invariant (λ held. false≢true (sym c.if-holds_text.false ∙ c.holds_text.ensures.1 held))

pub returns : goal.returns
returns c =
    let sorted = c.args.sorted.now in
    let others = c.args.others.now in
    let none = subst (All (λ t. Contains (bytes_of_texts sorted) t.now → ⊥)) (take_all c.loop-text.text-index others c.loop-text-test.false) c.loop-text.invariant in
    (λ f. absurd (false≢true f), λ common. absurd (none_common sorted others none common))
