-- The cache by its entries: its order tells any two keys apart, so that a look-up finds the entry of the very key.
use Rattle.std.proofs.Common.{◌≡◌, ◌⊎◌, ◌↔◌, ℕ, zero, suc, Bool, true, false, cond, List, [], ◌∷◌, Option, Some, None, refl, ap, sym, subst, ◌∙◌, inl, inr, arith, Contains, All, IfSome, IfNone, OnOk, OnErr, option_copied, Result, Ok, Err, Bor}
use Rattle.std.specs.declared.cmp.Ordering.{Ordering}
use Rattle.std.specs.declared.cmp.Ordering.TheVariants.{Less, Equal, Greater}
use Rattle.std.specs.Ordering.{ordering_then, ordering_reverse, is_eq, match_ordering, nat_cmp}
use Rattle.std.specs.Cmp.Lexicographic.{slice_cmp}
use Rattle.std.specs.BTreeMap.{insert_entry, is_at}
use Rattle.std.specs.Map.{lookup}
use Rattle.std.proofs.lemmas.Map.Lookups.{exact_unsigned, exact_bytes}
use Rattle.std.proofs.lemmas.List.Elements.{Contains-append_right, All-cons, All-head, All-tail, All-contains}
use Rattle.mongo_scram.specs.declared.scram_version.ScramVersion.{ScramVersion}
use Rattle.mongo_scram.specs.declared.scram_version.ScramVersion.TheVariants.{Sha1, Sha256}
use Rattle.mongo_scram.specs.declared.cache.SaltedKey.{SaltedKey}
use Rattle.mongo_scram.specs.Version.{version_name}
use Rattle.mongo_scram.specs.KeyOrder.{key_cmp, key_cmp-total}
use Rattle.mongo_scram.specs.Entry.{IsSaltedEntry, IsUsable, salted_of}
use Rattle.mongo_scram.specs.Cache.{Adds}

-- ---- keys that compare equal are one key

both_equal : (r s : Ordering) → ordering_then r s ≡ Equal → (r ≡ Equal) × (s ≡ Equal)
both_equal Less s is = absurd (cc)
both_equal Equal s is = (refl, is)
both_equal Greater s is = absurd (cc)

same_version : (a b : ScramVersion) → slice_cmp nat_cmp (version_name a) (version_name b) ≡ Equal → a ≡ b
same_version Sha1 Sha1 is = refl
same_version Sha1 Sha256 is = absurd (cc)
same_version Sha256 Sha1 is = absurd (cc)
same_version Sha256 Sha256 is = refl

abbrev key_from_parts : ScramVersion → List ℕ → List ℕ → List ℕ → ℕ → SaltedKey
key_from_parts version username password salt count = record { version = version; username = username; password = password; salt = salt; count = count }

same_parts : (v w : ScramVersion) (u x p q s t : List ℕ) (c d : ℕ) → v ≡ w → u ≡ x → p ≡ q → s ≡ t → c ≡ d → key_from_parts v u p s c ≡ key_from_parts w x q t d
same_parts v w u x p q s t c d a b e f g = λ i. key_from_parts (a i) (b i) (e i) (f i) (g i)

pub key_cmp-exact : (x y : SaltedKey) → key_cmp x y ≡ Equal → x ≡ y
key_cmp-exact x y is =
    let four = both_equal _ _ is in
    let three = both_equal _ _ four.0 in
    let two = both_equal _ _ three.0 in
    let one = both_equal _ _ two.0 in
    same_parts x.version y.version x.username y.username x.password y.password x.salt y.salt x.count y.count
    (same_version x.version y.version four.1)
    (exact_bytes x.username y.username two.1)
    (exact_bytes x.password y.password three.1)
    (exact_bytes x.salt y.salt one.1)
    (exact_unsigned x.count y.count one.0)

own_reverse : (r : Ordering) → r ≡ ordering_reverse r → is_eq r ≡ true
own_reverse Less is = absurd (cc)
own_reverse Equal is = refl
own_reverse Greater is = absurd (cc)

at_itself : (key : SaltedKey) → is_at (key_cmp key) key ≡ true
at_itself key = own_reverse (key_cmp key key) (key_cmp-total.antisymm key key)

is_equal : (r : Ordering) → is_eq r ≡ true → r ≡ Equal
is_equal Less is = absurd (cc)
is_equal Equal is = refl
is_equal Greater is = absurd (cc)

pub equal_keys : (x y : SaltedKey) → is_eq (key_cmp x y) ≡ true → x ≡ y
equal_keys x y is = key_cmp-exact x y (is_equal (key_cmp x y) is)

pub same_keys : (x y : SaltedKey) → x ≡ y → is_eq (key_cmp x y) ≡ true
same_keys x y same = subst (λ (key : SaltedKey). is_eq (key_cmp x key) ≡ true) same (at_itself x)

-- ---- what stands in a list, by recursion

abbrev IsIn : {X : Type 0} → List X → X → Type 0
IsIn [] x = ⊥
IsIn (y ∷ ys) x = (y ≡ x) ⊎ IsIn ys x

to_IsIn : {X : Type 0} (xs : List X) (x : X) → Contains xs x → IsIn xs x
to_IsIn [] x (k, within, is) = absurd (omega arith)
to_IsIn (y ∷ ys) x (zero, within, is) = inl is
to_IsIn (y ∷ ys) x (suc k, within, is) = inr (to_IsIn ys x (k, omega arith, is))

from_IsIn : {X : Type 0} (xs : List X) (x : X) → IsIn xs x → Contains xs x
from_IsIn [] x h = absurd h
from_IsIn (y ∷ ys) x (inl is) = (0, omega arith, is)
from_IsIn (y ∷ ys) x (inr h) = Contains-append_right (y ∷ []) ys x (from_IsIn ys x h)

abbrev Entries : Type 0
Entries = List (SaltedKey × List ℕ)

-- ---- look-ups

found_or_later : (test : Bool) (v w : List ℕ) (rest : Option (List ℕ)) → cond test (Some v) rest ≡ Some w → ((test ≡ true) × (v ≡ w)) ⊎ (rest ≡ Some w)
found_or_later true v w rest is = inl (refl, cc)
found_or_later false v w rest is = inr is

not_here : (test : Bool) (v : List ℕ) (rest : Option (List ℕ)) → cond test (Some v) rest ≡ None → (test ≡ false) × (rest ≡ None)
not_here true v rest is = absurd (cc)
not_here false v rest is = (refl, is)

entry_is : (e : SaltedKey × List ℕ) (key : SaltedKey) (tag : List ℕ) → key ≡ e.0 → e.1 ≡ tag → e ≡ (key, tag)
entry_is e key tag p q = λ i. (sym p i, q i)

lookup-some : (key : SaltedKey) (es : Entries) (tag : List ℕ) → lookup (is_at (key_cmp key)) es ≡ Some tag → IsIn es (key, tag)
lookup-some key [] tag is = absurd (cc)
lookup-some key (e ∷ es) tag is =
    elim (found_or_later (is_at (key_cmp key) e.0) e.1 tag (lookup (is_at (key_cmp key)) es) is) [
      | inl here ↦ inl (entry_is e key tag (key_cmp-exact key e.0 (is_equal (key_cmp key e.0) here.0)) here.1)
      | inr later ↦ inr (lookup-some key es tag later)
    ]

lookup-none : (key : SaltedKey) (es : Entries) (tag : List ℕ) → lookup (is_at (key_cmp key)) es ≡ None → IsIn es (key, tag) → ⊥
lookup-none key [] tag is h = h
lookup-none key (e ∷ es) tag is (inl here) =
    let passed = not_here (is_at (key_cmp key) e.0) e.1 (lookup (is_at (key_cmp key)) es) is in
    let equal : is_at (key_cmp key) e.0 ≡ true = ap (λ x. is_at (key_cmp key) x.0) here ∙ at_itself key in
    let never : true ≡ false = sym equal ∙ passed.0 in
    absurd (cc)
lookup-none key (e ∷ es) tag is (inr later) =
    lookup-none key es tag (not_here (is_at (key_cmp key) e.0) e.1 (lookup (is_at (key_cmp key)) es) is).1 later

pub found : (key : SaltedKey) (es : Entries) (tag : List ℕ) → lookup (is_at (key_cmp key)) es ≡ Some tag → Contains es (key, tag)
found key es tag is = from_IsIn es (key, tag) (lookup-some key es tag is)

pub not_found : (key : SaltedKey) (es : Entries) → lookup (is_at (key_cmp key)) es ≡ None → (tag : List ℕ) → Contains es (key, tag) → ⊥
not_found key es is tag h = lookup-none key es tag is (to_IsIn es (key, tag) h)

pub found_salted : (key : SaltedKey) (es : Entries) (tag : List ℕ) → All IsSaltedEntry es → lookup (is_at (key_cmp key)) es ≡ Some tag → IsSaltedEntry (key, tag)
found_salted key es tag all is = All-contains IsSaltedEntry es (key, tag) all (found key es tag is)

-- ---- one entry more

place : (r : Ordering) (k : SaltedKey) (v : List ℕ) (e : SaltedKey × List ℕ) (es : Entries) (other : SaltedKey × List ℕ) → (r ≡ Equal → ⊥)
    → IsIn (insert_entry key_cmp es k v) other ↔ (IsIn es other ⊎ ((k, v) ≡ other))
    → IsIn (match_ordering r ((k, v) ∷ e ∷ es) ((e.0, v) ∷ es) (e ∷ insert_entry key_cmp es k v)) other ↔ (IsIn (e ∷ es) other ⊎ ((k, v) ≡ other))
place Less k v e es other new more = (λ h. elim h [ inl is ↦ inr is | inr rest ↦ inl rest ], λ h. elim h [ inl rest ↦ inr rest | inr is ↦ inl is ])
place Equal k v e es other new more = absurd (new refl)
place Greater k v e es other new more = (
  λ h. elim h [ inl is ↦ inl (inl is) | inr rest ↦ elim (more.0 rest) [ inl old ↦ inl (inr old) | inr is ↦ inr is ] ],
  λ h. elim h [ inl old ↦ elim old [ inl is ↦ inl is | inr rest ↦ inr (more.1 (inl rest)) ] | inr is ↦ inr (more.1 (inr is)) ],
)

insert-adds : (es : Entries) (k : SaltedKey) (v : List ℕ) (other : SaltedKey × List ℕ) → ((tag : List ℕ) → IsIn es (k, tag) → ⊥) → IsIn (insert_entry key_cmp es k v) other ↔ (IsIn es other ⊎ ((k, v) ≡ other))
insert-adds [] k v other absent = (λ h. elim h [ inl is ↦ inr is | inr never ↦ absurd never ], λ h. elim h [ inl never ↦ absurd never | inr is ↦ inl is ])
insert-adds (e ∷ es) k v other absent =
    place (key_cmp k e.0) k v e es other (λ equal. absent e.1 (inl (entry_is e k e.1 (key_cmp-exact k e.0 equal) refl)))
    (insert-adds es k v other (λ tag h. absent tag (inr h)))

pub inserted : (es new : Entries) (k : SaltedKey) (v : List ℕ) → new ≡ insert_entry key_cmp es k v → ((tag : List ℕ) → Contains es (k, tag) → ⊥) → Adds es new (k, v)
inserted es new k v is absent other =
    let adds = insert-adds es k v other (λ tag h. absent tag (from_IsIn es (k, tag) h)) in (
      λ h. elim (adds.0 (subst (λ xs. IsIn xs other) is (to_IsIn new other h))) [ inl old ↦ inl (from_IsIn es other old) | inr here ↦ inr here ],
      λ h. from_IsIn new other (subst (λ xs. IsIn xs other) (sym is) (adds.1 (elim h [ inl old ↦ inl (to_IsIn es other old) | inr here ↦ inr here ]))),
    )

All-place : (r : Ordering) (k : SaltedKey) (v : List ℕ) (e : SaltedKey × List ℕ) (es : Entries) → (r ≡ Equal → k ≡ e.0) → All IsSaltedEntry (e ∷ es) → IsSaltedEntry (k, v) → All IsSaltedEntry (insert_entry key_cmp es k v)
    → All IsSaltedEntry (match_ordering r ((k, v) ∷ e ∷ es) ((e.0, v) ∷ es) (e ∷ insert_entry key_cmp es k v))
All-place Less k v e es same all new rest = All-cons IsSaltedEntry (k, v) (e ∷ es) new all
All-place Equal k v e es same all new rest = All-cons IsSaltedEntry (e.0, v) es (subst (λ key. IsSaltedEntry (key, v)) (same refl) new) (All-tail IsSaltedEntry e es all)
All-place Greater k v e es same all new rest = All-cons IsSaltedEntry e _ (All-head IsSaltedEntry e es all) rest

All-insert_entry : (es : Entries) (k : SaltedKey) (v : List ℕ) → All IsSaltedEntry es → IsSaltedEntry (k, v) → All IsSaltedEntry (insert_entry key_cmp es k v)
All-insert_entry [] k v all new = All-cons IsSaltedEntry (k, v) [] new all
All-insert_entry (e ∷ es) k v all new =
    All-place (key_cmp k e.0) k v e es (key_cmp-exact k e.0) all new (All-insert_entry es k v (All-tail IsSaltedEntry e es all) new)

pub All-inserted : (es new : Entries) (k : SaltedKey) (v : List ℕ) → new ≡ insert_entry key_cmp es k v → All IsSaltedEntry es → IsSaltedEntry (k, v) → All IsSaltedEntry new
All-inserted es new k v is all salted = subst (All IsSaltedEntry) (sym is) (All-insert_entry es k v all salted)

-- ---- what the map's own clauses come to

pub get_found : (r : Option (Bor (List ℕ))) (key : SaltedKey) (es : Entries) → option_copied r ≡ lookup (is_at (key_cmp key)) es → IfSome r (λ tag. Contains es (key, tag.now))
get_found None key es is = tt
get_found (Some tag) key es is = found key es tag.now (sym is)

pub get_salted : (r : Option (Bor (List ℕ))) (key : SaltedKey) (es : Entries) → All IsSaltedEntry es → option_copied r ≡ lookup (is_at (key_cmp key)) es → IfSome r (λ tag. tag.now ≡ salted_of key)
get_salted None key es all is = tt
get_salted (Some tag) key es all is = (found_salted key es tag.now all (sym is)).salted_is

pub get_usable : (r : Option (Bor (List ℕ))) (key : SaltedKey) (es : Entries) → All IsSaltedEntry es → option_copied r ≡ lookup (is_at (key_cmp key)) es → IfSome r (λ _. IsUsable key)
get_usable None key es all is = tt
get_usable (Some tag) key es all is = (found_salted key es tag.now all (sym is)).usable

pub get_absent : (r : Option (Bor (List ℕ))) (key : SaltedKey) (es : Entries) → option_copied r ≡ lookup (is_at (key_cmp key)) es → IfNone r ((tag : List ℕ) → Contains es (key, tag) → ⊥)
get_absent None key es is = not_found key es (sym is)
get_absent (Some tag) key es is = tt

pub insert_salted : {T E : Type 0} (r : Result T E) (es new : Entries) (k : SaltedKey) (v : List ℕ) → OnOk r (new ≡ insert_entry key_cmp es k v) → OnErr r (new ≡ es) → All IsSaltedEntry es → IsSaltedEntry (k, v) → All IsSaltedEntry new
insert_salted (Ok x) es new k v is same all salted = All-inserted es new k v is all salted
insert_salted (Err e) es new k v is same all salted = subst (All IsSaltedEntry) (sym same) all
