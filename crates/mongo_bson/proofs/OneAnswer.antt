-- Of the things that a reader may say of bytes, at most one is so.
use Rattle.std.proofs.Common.{◌≡◌, ◌≢◌, ◌⊎◌, inl, inr, ℕ, List, [], ◌∷◌, ◌++◌, Result, Ok, Err, IfErr, refl, sym, ap, ◌∙◌, subst}
use Rattle.std.specs.List.{AllByRecursion, flat_map}
use Rattle.std.proofs.lemmas.List.{append_assoc, append-nil}
use Rattle.mongo_bson.specs.Document.{Element, IsElement, spell}
use Rattle.mongo_bson.specs.Reading.{BeginsWithElement}
use Rattle.mongo_bson.specs.Steps.{IsBroken}
use Rattle.mongo_bson.specs.Keys.{keys_of}
use Rattle.mongo_bson.specs.Find.{IsFirstOf, LacksKey, BreaksOff, BeginsWithKey}
use Rattle.std.specs.Prelude.{IsErrOf}
use Rattle.mongo_bson.specs.Refusals.{PushRefuses, HadMemory}
use Rattle.mongo_bson.specs.Merge.{HaveCommon, ShareKey, ShareNoKey}
use Rattle.mongo_bson.specs.declared.fault.BsonFault.{BsonFault}
use Rattle.mongo_bson.specs.declared.fault.BsonFault.TheVariants.{DuplicateKey}
use Rattle.mongo_bson.proofs.OneElement.{one_element, one_list}

-- bytes that begin with elements of other keys than this one, and go on as the rest
abbrev PassesOtherKeys : List ℕ → List ℕ → List Element → List ℕ → Type 0
PassesOtherKeys bytes key before rest = (bytes ≡ flat_map spell before ++ rest) × AllByRecursion IsElement before × AllByRecursion (λ e. e.key ≢ key) before

begins_first : (e : Element) (es : List Element) (bytes rest : List ℕ) → IsElement e → bytes ≡ flat_map spell (e ∷ es) ++ rest → BeginsWithElement bytes e (flat_map spell es ++ rest)
begins_first e es bytes rest is same = record { is_element = is; spelled = same ∙ append_assoc (spell e) (flat_map spell es) rest }

pub no_first : (bytes rest : List ℕ) (e : Element) → IsBroken bytes → BeginsWithElement bytes e rest → ⊥
no_first bytes rest e none begins = none.none e rest begins.is_element begins.spelled

one_first : (bytes x y : List ℕ) (e f : Element) → BeginsWithElement bytes e x → BeginsWithElement bytes f y → (e ≡ f) × (x ≡ y)
one_first bytes x y e f p q = one_element e f x y p.is_element q.is_element (sym p.spelled ∙ q.spelled)

-- both walks pass over the same elements, as long as both go on
abbrev StopsSearch : List ℕ → List ℕ → Type 0
StopsSearch key rest = (rest ≡ []) ⊎ (IsBroken rest ⊎ ((e : Element) × (after : List ℕ) × BeginsWithElement rest e after × (e.key ≡ key)))

nothing_begins : (rest after : List ℕ) (e : Element) → rest ≡ [] → BeginsWithElement rest e after → ⊥
nothing_begins rest after e none begins = let over : spell e ++ after ≡ [] = sym begins.spelled ∙ none in cc

-- what ends a walk isn't an element of another key
not_passed : (key rest after : List ℕ) (e : Element) → StopsSearch key rest → BeginsWithElement rest e after → e.key ≢ key → ⊥
not_passed key rest after e (inl none) begins other = nothing_begins rest after e none begins
not_passed key rest after e (inr (inl none)) begins other = no_first rest after e none begins
not_passed key rest after e (inr (inr (f, more, starts, same))) begins other = other (ap (λ x. x.key) (one_first rest after more e f begins starts).0 ∙ same)

-- so two walks end at the same place
one_end : (before others : List Element) (bytes key x y : List ℕ) → PassesOtherKeys bytes key before x → PassesOtherKeys bytes key others y → StopsSearch key x → StopsSearch key y → x ≡ y
one_end [] [] bytes key x y p q a b = sym p.0 ∙ q.0
one_end [] (f ∷ fs) bytes key x y p q a b = absurd (not_passed key x (flat_map spell fs ++ y) f a (begins_first f fs x y q.1.0 (sym p.0 ∙ q.0)) q.2.0)
one_end (e ∷ es) [] bytes key x y p q a b = absurd (not_passed key y (flat_map spell es ++ x) e b (begins_first e es y x p.1.0 (sym q.0 ∙ p.0)) p.2.0)
one_end (e ∷ es) (f ∷ fs) bytes key x y p q a b =
    let one = one_first bytes (flat_map spell es ++ x) (flat_map spell fs ++ y) e f (begins_first e es bytes x p.1.0 p.0) (begins_first f fs bytes y q.1.0 q.0) in
    one_end es fs (flat_map spell fs ++ y) key x y (sym one.1, p.1.1, p.2.1) (refl, q.1.1, q.2.1) a b

-- where a search ends, and how
record SearchEnds (bytes key : List ℕ) : Type 0 where
  before : List Element
  rest : List ℕ
  walk : PassesOtherKeys bytes key before rest
  outcome : StopsSearch key rest

same_end : (bytes key : List ℕ) (p q : SearchEnds bytes key) → p.rest ≡ q.rest
same_end bytes key p q = one_end p.before q.before bytes key p.rest q.rest p.walk q.walk p.outcome q.outcome

abbrev none_ends : (bytes key : List ℕ) → LacksKey bytes key → SearchEnds bytes key
none_ends bytes key none =
    record { before = none.elements; rest = []; walk = (none.fill.spelled ∙ sym (append-nil (flat_map spell none.elements)), none.fill.each, none.other); outcome = inl refl }

abbrev broken_ends : (bytes key : List ℕ) → BreaksOff bytes key → SearchEnds bytes key
broken_ends bytes key broken =
    let passed = broken.passed in
    record { before = passed.before; rest = broken.rest; walk = (passed.spelled, passed.each, passed.other); outcome = inr (inl broken.broken) }

abbrev found_ends : (bytes key : List ℕ) (e : Element) → IsFirstOf bytes key e → SearchEnds bytes key
found_ends bytes key e found =
    let passed = found.passed in
    record { before = passed.before; rest = found.rest; walk = (passed.spelled, passed.each, passed.other); outcome = inr (inr (e, found.after, found.begins, found.key_is)) }

pub none_or_broken : (bytes key : List ℕ) → LacksKey bytes key → BreaksOff bytes key → ⊥
none_or_broken bytes key none broken = broken.broken.left (same_end bytes key (broken_ends bytes key broken) (none_ends bytes key none))

pub found_or_broken : (bytes key : List ℕ) (e : Element) → IsFirstOf bytes key e → BreaksOff bytes key → ⊥
found_or_broken bytes key e found broken =
    no_first found.rest found.after e (subst IsBroken (same_end bytes key (broken_ends bytes key broken) (found_ends bytes key e found)) broken.broken) found.begins

pub found_or_none : (bytes key : List ℕ) (e : Element) → IsFirstOf bytes key e → LacksKey bytes key → ⊥
found_or_none bytes key e found none =
    nothing_begins found.rest found.after e (same_end bytes key (found_ends bytes key e found) (none_ends bytes key none)) found.begins

-- the first element of a key is one
pub one_found : (bytes key : List ℕ) (e f : Element) → IsFirstOf bytes key e → IsFirstOf bytes key f → e ≡ f
one_found bytes key e f p q =
    let same = same_end bytes key (found_ends bytes key e p) (found_ends bytes key f q) in
    (one_first q.rest p.after q.after e f (subst (λ r. BeginsWithElement r e p.after) same p.begins) q.begins).0

-- a key stands in both documents or in none
pub shared_or_not : (this other : List ℕ) → ShareKey this other → ShareNoKey this other → ⊥
shared_or_not this other share none =
    let mine = one_list share.both.mine none.both.mine share.both.fill.each none.both.fill.each (sym share.both.fill.spelled ∙ none.both.fill.spelled) in
    let others = one_list share.both.others none.both.others share.both.fill_other.each none.both.fill_other.each (sym share.both.fill_other.spelled ∙ none.both.fill_other.spelled) in
    none.apart (subst (λ es. HaveCommon (keys_of none.both.mine) (keys_of es)) others (subst (λ es. HaveCommon (keys_of es) (keys_of share.both.others)) mine share.common))

-- nor does the refusal of a push say that a key stands in both
pub no_duplicate : (this other : List ℕ) (r : Result (Unit {0}) BsonFault) → ShareNoKey this other → IfErr r PushRefuses → (IsErrOf r DuplicateKey → HadMemory r × ShareKey this other) × (HadMemory r × ShareKey this other → IsErrOf r DuplicateKey)
no_duplicate this other (Ok _) none refused = (λ same. cc, λ said. absurd (shared_or_not this other said.1 none))
no_duplicate this other (Err DuplicateKey) none refused = absurd refused
no_duplicate this other (Err fault) none refused = (λ same. cc, λ said. absurd (shared_or_not this other said.1 none))

-- the first key is one
pub one_key : (bytes key other : List ℕ) → BeginsWithKey bytes key → BeginsWithKey bytes other → key ≡ other
one_key bytes key other (e, x, p, same) (f, y, q, same_other) = sym same ∙ ap (λ z. z.key) (one_first bytes x y e f p q).0 ∙ same_other
