-- A document that grows by the elements of a list, some at a time.
use Rattle.std.proofs.Common.{◌≡◌, ℕ, sym, ap, ◌∙◌, List, [], ◌∷◌, ◌++◌, length, length-append, append_assoc, arith}
use Rattle.std.proofs.lemmas.List.{append-nil}
use Rattle.std.specs.List.{flat_map}
use Rattle.std.proofs.lemmas.Grind.{flat_map-append}
use Rattle.mongo_bson.specs.Document.{Element, spell}
use Rattle.mongo_bson.specs.Framed.{IsFramed, element_bytes, enclosed}
use Rattle.mongo_bson.specs.declared.fault.BsonFault.{BsonFault}
use Rattle.mongo_bson.specs.declared.fault.BsonFault.TheVariants.{TooLong, OutOfMemory}
use Rattle.mongo_bson.proofs.Enclosed.{length-enclosed, element_bytes-enclosed}
use Rattle.mongo_command.specs.Arguments.{TooLongFor}

-- the body after bytes were put at the end
pub body_grown : (old new more : List ℕ) → IsFramed new → new ≡ enclosed (element_bytes old ++ more) → element_bytes new ≡ element_bytes old ++ more
body_grown old new more framed is =
    ap element_bytes is ∙ element_bytes-enclosed (element_bytes old ++ more) (omega (arith, framed.most, ap length is, length-enclosed (element_bytes old ++ more)))

pub sealed_grown : (old new more : List ℕ) → IsFramed new → new ≡ enclosed (element_bytes old ++ more) → new ≡ enclosed (element_bytes new)
sealed_grown old new more framed is = is ∙ ap enclosed (sym (body_grown old new more framed is))

spelled_two : (here more : List Element) → flat_map spell (here ++ more) ≡ flat_map spell here ++ flat_map spell more
spelled_two here more = flat_map-append spell here more

-- what is written and what is still to be written are the whole, before some elements and after them
pub whole_grown : (old new total : List ℕ) (here more all : List Element) → IsFramed new → new ≡ enclosed (element_bytes old ++ flat_map spell here) → all ≡ here ++ more → element_bytes old ++ flat_map spell all ≡ total → element_bytes new ++ flat_map spell more ≡ total
whole_grown old new total here more all framed is split whole =
    ap (λ b. b ++ flat_map spell more) (body_grown old new (flat_map spell here) framed is)
    ∙ append_assoc (element_bytes old) (flat_map spell here) (flat_map spell more)
    ∙ ap (λ b. element_bytes old ++ b) (sym (ap (flat_map spell) split ∙ spelled_two here more))
    ∙ whole

-- where some have no room, neither has the whole
pub whole_too_long : (document total : List ℕ) (here more all : List Element) (fault : BsonFault) → IsFramed document → all ≡ here ++ more → element_bytes document ++ flat_map spell all ≡ total → TooLongFor fault (enclosed (element_bytes document ++ flat_map spell here)) → TooLongFor fault (enclosed total)
whole_too_long document total here more all TooLong framed split whole long =
    let two : flat_map spell all ≡ flat_map spell here ++ flat_map spell more = ap (flat_map spell) split ∙ spelled_two here more in
    omega (arith, long, length-enclosed total, length-enclosed (element_bytes document ++ flat_map spell here), ap length (sym whole), ap length two, length-append (element_bytes document) (flat_map spell all), length-append (element_bytes document) (flat_map spell here), length-append (flat_map spell here) (flat_map spell more))
whole_too_long document total here more all OutOfMemory framed split whole long = tt
whole_too_long document total here more all fault framed split whole long = absurd long

-- once nothing is left to be written, the document is the whole
pub all_written : (document body : List ℕ) → document ≡ enclosed (element_bytes document) → element_bytes document ++ [] ≡ body → document ≡ enclosed body
all_written document body sealed whole = sealed ∙ ap enclosed (sym (append-nil (element_bytes document)) ∙ whole)

pub both_joined : {T : Type 0} (a b x y : List T) → a ≡ x → b ≡ y → a ++ b ≡ x ++ y
both_joined a b x y p q = ap (λ l. l ++ b) p ∙ ap (λ l. x ++ l) q

-- a document that has an element more, and then those of a list
pub then_carried : (old new : List ℕ) (e : Element) (elements carried : List Element) → IsFramed new → new ≡ enclosed (element_bytes old ++ spell e) → elements ≡ carried → enclosed (element_bytes new ++ flat_map spell elements) ≡ enclosed (element_bytes old ++ flat_map spell (e ∷ carried))
then_carried old new e elements carried framed is same =
    ap enclosed (
    ap (λ b. b ++ flat_map spell elements) (body_grown old new (spell e) framed is)
    ∙ append_assoc (element_bytes old) (spell e) (flat_map spell elements)
    ∙ ap (λ es. element_bytes old ++ (spell e ++ flat_map spell es)) same)
