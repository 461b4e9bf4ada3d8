-- The parts of an OP_QUERY, as they are taken.
use Rattle.std.proofs.Common.{rules, ◌≡◌, ℕ, ◌<◌, Option, None, Some, MatchOption, List, ◌∷◌, ◌++◌, length, inl, inr, refl, sym, ap, ◌∙◌, subst, arith, length-append}
use Rattle.std.proofs.lemmas.Str.{IsUtf8-from_is_utf8}
use Rattle.std.specs.Str.{chars, is_utf8}
use Rattle.mongo_bson.specs.Document.{IsCstring}
use Rattle.mongo_bson.specs.Framed.{IsFramed}
use Rattle.mongo_bson.specs.Reading.{HasNoCstring, BeginsWithDocument, HasNoDocument}
use Rattle.mongo_bson.specs.declared.raw_document.RawDocument.{RawDocument}
use Rattle.mongo_bson.proofs.Cstrings.{one_cstring}
use Rattle.mongo_wire.proofs.OneFrame.{one_framed, same_front}
use Rattle.mongo_session.specs.Requests.{IsCommandName, IsCommandNamed}
use Rattle.mongo_service.specs.Taken.{command_collection, query_key, HasNoQuery, IsCommandOf, IsQueryBody, IsQueryOf}
use Rattle.mongo_session.specs.Values.{HasInside}

-- ---- the parts of a body

-- what follows the flags of a query
after_flags : (body flags rest document : List ℕ) → length flags ≡ 4 → body ≡ flags ++ rest → (q : IsQueryOf body document) → rest ≡ command_collection ++ (0 ∷ (q.numbers ++ (document ++ q.more)))
after_flags body flags rest document four p q = (same_front flags q.flags rest (command_collection ++ (0 ∷ (q.numbers ++ (document ++ q.more)))) (sym p ∙ q.spelled) (four ∙ sym q.flags_four)).1

named_utf8 : IsCstring command_collection
unfolding chars is_utf8 lib.Utf8.encode
named_utf8 = record { utf8 = IsUtf8-from_is_utf8 command_collection refl; without_zero = search rules }

-- no flags
pub no_flags : (body : List ℕ) → length body < 4 → HasNoQuery body
no_flags body short document framed q = omega (arith, short, ap length q.spelled, q.flags_four, length-append q.flags (command_collection ++ (0 ∷ (q.numbers ++ (document ++ q.more)))))

-- no name after them
pub no_collection_name : (body flags rest : List ℕ) → length flags ≡ 4 → body ≡ flags ++ rest → HasNoCstring rest → HasNoQuery body
no_collection_name body flags rest four p none document framed q = none command_collection (q.numbers ++ (document ++ q.more)) named_utf8 (after_flags body flags rest document four p q)

-- what follows the name of a query, where a name is there
after_name_of : (body flags rest name after_name document : List ℕ) → length flags ≡ 4 → body ≡ flags ++ rest → IsCstring name → rest ≡ name ++ (0 ∷ after_name) → (q : IsQueryOf body document)
    → (name ≡ command_collection) × (after_name ≡ q.numbers ++ (document ++ q.more))
after_name_of body flags rest name after_name document four p is_cstring s q =
    one_cstring name command_collection after_name (q.numbers ++ (document ++ q.more)) is_cstring.without_zero named_utf8.without_zero (sym s ∙ after_flags body flags rest document four p q)

-- another name
pub other_name : (body flags rest name after_name : List ℕ) → length flags ≡ 4 → body ≡ flags ++ rest → IsCstring name → rest ≡ name ++ (0 ∷ after_name) → (name ≡ command_collection → ⊥) → HasNoQuery body
other_name body flags rest name after_name four p is_cstring s other document framed q = other (after_name_of body flags rest name after_name document four p is_cstring s q).0

-- no numbers after it
pub no_numbers : (body flags rest name after_name : List ℕ) → length flags ≡ 4 → body ≡ flags ++ rest → IsCstring name → rest ≡ name ++ (0 ∷ after_name) → length after_name < 8 → HasNoQuery body
no_numbers body flags rest name after_name four p is_cstring s short document framed q =
    omega (arith, short, ap length (after_name_of body flags rest name after_name document four p is_cstring s q).1, q.numbers_eight, length-append q.numbers (document ++ q.more))

-- the document of a query stands after its numbers
document_there : (body flags rest name after_name numbers last document : List ℕ) → length flags ≡ 4 → body ≡ flags ++ rest → IsCstring name → rest ≡ name ++ (0 ∷ after_name) → length numbers ≡ 8 → after_name ≡ numbers ++ last
    → (q : IsQueryOf body document) → last ≡ document ++ q.more
document_there body flags rest name after_name numbers last document four p is_cstring s eight r q =
    (same_front numbers q.numbers last (document ++ q.more) (sym r ∙ (after_name_of body flags rest name after_name document four p is_cstring s q).1) (eight ∙ sym q.numbers_eight)).1

-- no document after them
pub no_query_document : (body flags rest name after_name numbers last : List ℕ) → length flags ≡ 4 → body ≡ flags ++ rest → IsCstring name → rest ≡ name ++ (0 ∷ after_name) → length numbers ≡ 8 → after_name ≡ numbers ++ last
    → HasNoDocument last → HasNoQuery body
no_query_document body flags rest name after_name numbers last four p is_cstring s eight r none document framed q =
    none document q.more framed (document_there body flags rest name after_name numbers last document four p is_cstring s eight r q)

pub query_found : (body flags rest name after_name numbers last document more : List ℕ) → length flags ≡ 4 → body ≡ flags ++ rest → rest ≡ name ++ (0 ∷ after_name) → name ≡ command_collection → length numbers ≡ 8 → after_name ≡ numbers ++ last
    → BeginsWithDocument last document more → IsQueryOf body document
query_found body flags rest name after_name numbers last document more four p q named eight r begins = record {
  flags = flags;
  numbers = numbers;
  more = more;
  spelled = p ∙ ap (λ l. flags ++ l) (q ∙ ap (λ n. n ++ (0 ∷ after_name)) named ∙ ap (λ l. command_collection ++ (0 ∷ l)) (r ∙ ap (λ l. numbers ++ l) begins.spelled));
  flags_four = four;
  numbers_eight = eight;
}

-- ---- the command

-- a body has one document
one_query : (body x y : List ℕ) → IsFramed x → IsQueryOf body x → IsFramed y → IsQueryOf body y → x ≡ y
one_query body x y x_framed p y_framed q =
    let name = command_collection in
    let rest = λ (d : List ℕ) (o : IsQueryOf body d). name ++ (0 ∷ (o.numbers ++ (d ++ o.more))) in
    let there = document_there body p.flags (rest x p) name (p.numbers ++ (x ++ p.more)) p.numbers (x ++ p.more) y p.flags_four p.spelled named_utf8 refl p.numbers_eight refl q in
    (one_framed x y p.more q.more x_framed y_framed there).0

-- a body's document asks for no command
no_command : (body document : List ℕ) → IsFramed document → IsQueryOf body document → ((command : List ℕ) → IsCommandOf document command → ⊥) → (command : List ℕ) → IsQueryBody body command → ⊥
no_command body document framed is_query none command q = none command (subst (λ d. IsCommandOf d command) (one_query body q.document document q.framed q.is_query framed is_query) q.command_is)

-- the first key is `$query`
wraps : (document name : List ℕ) → IsCommandName document name → name ≡ query_key → IsCommandNamed document query_key
wraps document name (inl named) is = subst (IsCommandNamed document) is named
wraps document name (inr (unnamed, empty)) is = absurd (omega (arith, ap length (sym empty ∙ is)))

-- what a document whose first key is `$query` wraps
pub wrapped_command : (document name : List ℕ) → IsCommandName document name → name ≡ query_key → (r : Option RawDocument)
    → MatchOption r ((inner : List ℕ) → HasInside document query_key inner → ⊥) (λ inner. HasInside document query_key inner.bytes.now)
    → MatchOption r ((command : List ℕ) → IsCommandOf document command → ⊥) (λ command. IsCommandOf document command.bytes.now)
wrapped_command document name named is None none = by
  where
    by : (command : List ℕ) → IsCommandOf document command → ⊥
    by command (inl (other, same)) = other (wraps document name named is)
    by command (inr (so, inside)) = none command inside
wrapped_command document name named is (Some inner) inside = inr (wraps document name named is, inside)

-- the command of a body's document is the body's
pub body_command : (body document : List ℕ) → IsFramed document → IsQueryOf body document → (r : Option RawDocument)
    → MatchOption r ((command : List ℕ) → IsCommandOf document command → ⊥) (λ command. IsCommandOf document command.bytes.now)
    → MatchOption r ((command : List ℕ) → IsQueryBody body command → ⊥) (λ command. IsQueryBody body command.bytes.now)
body_command body document framed is_query None none = no_command body document framed is_query none
body_command body document framed is_query (Some command) is = record { document = document; is_query = is_query; framed = framed; command_is = is }
