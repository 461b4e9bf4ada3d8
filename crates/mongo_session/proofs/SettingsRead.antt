-- The accounts that values say, one after another.
use Rattle.std.proofs.Common.{◌≡◌, ℕ, suc, ◌+◌, ◌<◌, ◌∙◌, refl, sym, ap, Option, None, Some, option_map, List, [], ◌∷◌, ◌++◌, map, length, get_or, drop, add-one, drop-cons, append-nil}
use Rattle.std.proofs.lemmas.List.{append_assoc, map-append}
use Rattle.serde_json.specs.Data.{Data}
use Rattle.serde_json.specs.View.{view, items_view}
use Rattle.serde_json.specs.declared.value.Value.{Value}
use Rattle.mongo_session.specs.ServeSettings.{after_part, AccountValues, account_values, account_in, accounts_by, accounts_of_user, accounts_of, HaveAtEnd, HasNoMeaning}
use Rattle.mongo_session.specs.declared.serve_settings.Account.{Account}
use Rattle.mongo_session.specs.declared.serve_settings.reading.ServeSettingsError.{ServeSettingsError}
use Rattle.mongo_session.specs.declared.serve_settings.reading.ServeSettingsError.TheVariants.{BadSettings, OutOfMemory}

-- where a part says nothing, the whole says nothing
pub without_part : {A B : Type 0} (error : ServeSettingsError) (part : Option A) (rest : A → Option B) → HasNoMeaning error part → HasNoMeaning error (after_part part rest)
without_part OutOfMemory part rest nothing = tt
without_part BadSettings part rest nothing = rw nothing refl

-- ---- accounts so far

-- accounts before the others
abbrev pub behind_accounts : List AccountValues → Option (List AccountValues) → Option (List AccountValues)
behind_accounts front others = option_map (λ more. front ++ more) others

-- these accounts, and then those that are left to be said, are the old ones and then all that are said
abbrev pub ReadTo : List Account → Option (List AccountValues) → List Account → Option (List AccountValues) → Type 0
ReadTo old all new left = behind_accounts (map account_values old) all ≡ behind_accounts (map account_values new) left

none_reported : (front : List AccountValues) (all : Option (List AccountValues)) → behind_accounts front all ≡ None → all ≡ None
none_reported front None is = refl
none_reported front (Some said) is = cc

-- nothing more is said
pub saying_stopped : (error : ServeSettingsError) (old new : List Account) (all left : Option (List AccountValues)) → ReadTo old all new left → HasNoMeaning error left → HasNoMeaning error all
saying_stopped OutOfMemory old new all left so_far nothing = tt
saying_stopped BadSettings old new all left so_far nothing = none_reported (map account_values old) all (so_far ∙ ap (behind_accounts (map account_values new)) nothing)

-- all is said
pub accounts_ended : (old new : List Account) (all left : Option (List AccountValues)) → ReadTo old all new left → left ≡ Some [] → HaveAtEnd all old new
accounts_ended old new all left so_far none_left = whole all (so_far ∙ ap (behind_accounts (map account_values new)) none_left ∙ ap Some (append-nil (map account_values new))) where
  whole : (all : Option (List AccountValues)) → behind_accounts (map account_values old) all ≡ Some (map account_values new) → HaveAtEnd all old new
  whole None is = cc
  whole (Some said) is = cc

-- ---- one account more

joined_one : (front : List AccountValues) (one : AccountValues) (others : Option (List AccountValues)) → behind_accounts front (after_part others (λ more. Some (one ∷ more))) ≡ behind_accounts (front ++ one ∷ []) others
joined_one front one (Some more) = ap Some (sym (append_assoc front (one ∷ []) more))
joined_one front one None = refl

one_more : (old new : List Account) (account : Account) (all others : Option (List AccountValues)) → ReadTo old all new (after_part others (λ more. Some (account_values account ∷ more))) → ReadTo old all (new ++ account ∷ []) others
one_more old new account all others so_far =
    so_far ∙ joined_one (map account_values new) (account_values account) others ∙ ap (λ front. behind_accounts front others) (sym (map-append account_values new (account ∷ [])))

next_values : (values : List Value) (i : ℕ) (x : Value) → i < length values → x ≡ get_or values i x → drop i values ≡ x ∷ drop (i + 1) values
next_values values i x within at = drop-cons values i x within ∙ ap (λ y. y ∷ drop (suc i) values) (sym at) ∙ ap (λ n. x ∷ drop n values) (sym (add-one i))

-- the accounts by the mechanisms from here on
abbrev pub by_from : Data → List Value → List Value → ℕ → Option (List AccountValues)
by_from user mechanisms salts i = accounts_by user (items_view (drop i mechanisms)) (items_view (drop i salts))

by_next : (user : Data) (mechanisms salts : List Value) (i : ℕ) (mechanism salt : Value) → drop i mechanisms ≡ mechanism ∷ drop (i + 1) mechanisms → drop i salts ≡ salt ∷ drop (i + 1) salts
    → by_from user mechanisms salts i ≡ (after_part (account_in user (view mechanism) (view salt)) (λ account. after_part (by_from user mechanisms salts (i + 1)) (λ others. Some (account ∷ others))))
unfolding accounts_by
by_next user mechanisms salts i mechanism salt first second =
    ap (λ ms. accounts_by user (items_view ms) (items_view (drop i salts))) first ∙ ap (λ ss. accounts_by user (items_view (mechanism ∷ drop (i + 1) mechanisms)) (items_view ss)) second

pub pair_more : (user : Data) (mechanisms salts : List Value) (i : ℕ) (mechanism salt : Value) (old new : List Account) (account : Account) (all : Option (List AccountValues))
    → i < length mechanisms → i < length salts → mechanism ≡ get_or mechanisms i mechanism → salt ≡ get_or salts i salt
    → ReadTo old all new (by_from user mechanisms salts i) → account_in user (view mechanism) (view salt) ≡ Some (account_values account) → ReadTo old all (new ++ account ∷ []) (by_from user mechanisms salts (i + 1))
pair_more user mechanisms salts i mechanism salt old new account all within within_too at at_too so_far is =
    let rest = by_from user mechanisms salts (i + 1) in
    let next = by_next user mechanisms salts i mechanism salt (next_values mechanisms i mechanism within at) (next_values salts i salt within_too at_too) in
    one_more old new account all rest (so_far ∙ ap (behind_accounts (map account_values new)) (next ∙ ap (λ (found : Option AccountValues). after_part found (λ one. after_part rest (λ others. Some (one ∷ others)))) is))

pub pair_stopped : (error : ServeSettingsError) (user : Data) (mechanisms salts : List Value) (i : ℕ) (mechanism salt : Value) (old new : List Account) (all : Option (List AccountValues))
    → i < length mechanisms → i < length salts → mechanism ≡ get_or mechanisms i mechanism → salt ≡ get_or salts i salt
    → ReadTo old all new (by_from user mechanisms salts i) → HasNoMeaning error (account_in user (view mechanism) (view salt)) → HasNoMeaning error all
pair_stopped error user mechanisms salts i mechanism salt old new all within within_too at at_too so_far nothing =
    let rest = by_from user mechanisms salts (i + 1) in
    let next = by_next user mechanisms salts i mechanism salt (next_values mechanisms i mechanism within at) (next_values salts i salt within_too at_too) in
    saying_stopped error old new all _ (so_far ∙ ap (behind_accounts (map account_values new)) next) (without_part error _ (λ one. after_part rest (λ others. Some (one ∷ others))) nothing)

-- all mechanisms have had their turn
pub pairs_ended : (user : Data) (mechanisms salts : List Value) (i : ℕ) (old new : List Account) (all : Option (List AccountValues)) → drop i mechanisms ≡ [] → drop i salts ≡ [] → ReadTo old all new (by_from user mechanisms salts i) → HaveAtEnd all old new
unfolding accounts_by
pairs_ended user mechanisms salts i old new all first second so_far =
    accounts_ended old new all (by_from user mechanisms salts i) so_far (ap (λ ms. accounts_by user (items_view ms) (items_view (drop i salts))) first ∙ ap (λ ss. accounts_by user (items_view []) (items_view ss)) second)

none_after : {A B : Type 0} (part : Option A) → (after_part part (λ x. let none : Option B = None in none)) ≡ None
none_after None = refl
none_after (Some x) = refl

-- another number of salts than of mechanisms
pub unpaired : (user : Data) (mechanisms salts : List Value) → (length mechanisms ≡ length salts → ⊥) → accounts_by user (items_view mechanisms) (items_view salts) ≡ None
unfolding accounts_by
unpaired user [] [] other = absurd (other refl)
unpaired user [] (salt ∷ salts) other = refl
unpaired user (mechanism ∷ mechanisms) [] other = refl
unpaired user (mechanism ∷ mechanisms) (salt ∷ salts) other =
    rw (unpaired user mechanisms salts (λ is. other (ap suc is))) (none_after (account_in user (view mechanism) (view salt)))

-- ---- one user more

joined : (front said : List AccountValues) (others : Option (List AccountValues)) → behind_accounts front (after_part others (λ more. Some (said ++ more))) ≡ behind_accounts (front ++ said) others
joined front said (Some more) = ap Some (sym (append_assoc front said more))
joined front said None = refl

some_more : (old new later : List Account) (all said others : Option (List AccountValues)) → ReadTo old all new (after_part said (λ accounts. after_part others (λ more. Some (accounts ++ more)))) → HaveAtEnd said new later → ReadTo old all later others
some_more old new later all None others so_far added = absurd added
some_more old new later all (Some said) others so_far added = so_far ∙ joined (map account_values new) said others ∙ ap (λ front. behind_accounts front others) (sym added)

users_next : (users : List Value) (i : ℕ) (user : Value) → i < length users → user ≡ get_or users i user
    → accounts_of (items_view (drop i users)) ≡ (after_part (accounts_of_user (view user)) (λ accounts. after_part (accounts_of (items_view (drop (i + 1) users))) (λ others. Some (accounts ++ others))))
unfolding accounts_of
users_next users i user within at = ap (λ us. accounts_of (items_view us)) (next_values users i user within at)

pub user_more : (users : List Value) (i : ℕ) (user : Value) (new later : List Account) → i < length users → user ≡ get_or users i user
    → ReadTo [] (accounts_of (items_view users)) new (accounts_of (items_view (drop i users))) → HaveAtEnd (accounts_of_user (view user)) new later
    → ReadTo [] (accounts_of (items_view users)) later (accounts_of (items_view (drop (i + 1) users)))
user_more users i user new later within at so_far added =
    some_more [] new later (accounts_of (items_view users)) (accounts_of_user (view user)) (accounts_of (items_view (drop (i + 1) users)))
    (so_far ∙ ap (behind_accounts (map account_values new)) (users_next users i user within at)) added

pub user_stopped : (error : ServeSettingsError) (users : List Value) (i : ℕ) (user : Value) (new : List Account) → i < length users → user ≡ get_or users i user
    → ReadTo [] (accounts_of (items_view users)) new (accounts_of (items_view (drop i users))) → HasNoMeaning error (accounts_of_user (view user)) → HasNoMeaning error (accounts_of (items_view users))
user_stopped error users i user new within at so_far nothing =
    saying_stopped error [] new (accounts_of (items_view users)) _ (so_far ∙ ap (behind_accounts (map account_values new)) (users_next users i user within at))
    (without_part error _ (λ accounts. after_part (accounts_of (items_view (drop (i + 1) users))) (λ others. Some (accounts ++ others))) nothing)

at_end_of_none : (all : Option (List AccountValues)) (new : List Account) → HaveAtEnd all [] new → all ≡ Some (map account_values new)
at_end_of_none None new added = absurd added
at_end_of_none (Some said) new added = ap Some (sym added)

-- all users have had their turn
pub users_ended : (users : List Value) (i : ℕ) (new : List Account) → drop i users ≡ [] → ReadTo [] (accounts_of (items_view users)) new (accounts_of (items_view (drop i users))) → accounts_of (items_view users) ≡ Some (map account_values new)
unfolding accounts_of
users_ended users i new none so_far =
    at_end_of_none (accounts_of (items_view users)) new (accounts_ended [] new (accounts_of (items_view users)) (accounts_of (items_view (drop i users))) so_far (ap (λ us. accounts_of (items_view us)) none))
