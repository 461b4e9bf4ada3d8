-- Accounts in their order: the first of a user, and what a search has passed over.
use Rattle.std.proofs.Common.{◌≡◌, ◌<◌, ◌↔◌, ℕ, zero, suc, List, [], ◌∷◌, ◌++◌, Option, length, take, drop, get_or, IsTrue, ap, sym, subst, ◌∙◌, arith}
use Rattle.std.specs.List.{AllByRecursion}
use Rattle.mongo_scram.specs.declared.scram_version.ScramVersion.TheVariants.{Sha1, Sha256}
use Rattle.mongo_session.specs.Accounts.{AreOfOneUser, IsFirstAccount, HasAccount, is_listed, ListsAccounts}
use Rattle.mongo_session.specs.declared.reply.Mechanisms.{Mechanisms}
use Rattle.mongo_session.specs.declared.serve_settings.Account.{Account}

-- ---- a list at a place

pub split_at : {A : Type 0} (xs : List A) (i : ℕ) (x : A) → i < length xs → x ≡ get_or xs i x → xs ≡ take i xs ++ (x ∷ drop (suc i) xs)
split_at [] i x within at = absurd (omega (arith, within))
split_at (y ∷ ys) zero x within at = ap (λ z. z ∷ ys) (sym at)
split_at (y ∷ ys) (suc i) x within at = ap (λ zs. y ∷ zs) (split_at ys i x (omega (arith, within)) at)

pub all_more : {A : Type 0} (P : A → Type 0) (xs : List A) (i : ℕ) (x : A) → i < length xs → x ≡ get_or xs i x → AllByRecursion P (take i xs) → P x → AllByRecursion P (take (suc i) xs)
all_more P [] i x within at all is = absurd (omega (arith, within))
all_more P (y ∷ ys) zero x within at all is = (subst P at is, tt)
all_more P (y ∷ ys) (suc i) x within at all is = (all.0, all_more P ys i x (omega (arith, within)) at all.1 is)

pub all_weaker : {A : Type 0} (P Q : A → Type 0) (xs : List A) → ((x : A) → P x → Q x) → AllByRecursion P xs → AllByRecursion Q xs
all_weaker P Q [] on all = tt
all_weaker P Q (x ∷ xs) on all = (on x all.0, all_weaker P Q xs on all.1)

-- what stands at the place of a split isn't one of those that no item is
pub all_split : {A : Type 0} (P : A → Type 0) (before after : List A) (x : A) → AllByRecursion P (before ++ (x ∷ after)) → P x
all_split P [] after x all = all.0
all_split P (y ∷ before) after x all = all_split P before after x all.1

-- ---- the first account of a user

heads : (a b : Account) (xs ys : List Account) → a ∷ xs ≡ b ∷ ys → a ≡ b
heads a b xs ys same = cc

tails : (a b : Account) (xs ys : List Account) → a ∷ xs ≡ b ∷ ys → xs ≡ ys
tails a b xs ys same = cc

one_split : (before others after rest : List Account) (a b : Account) → AreOfOneUser a b → AllByRecursion (λ other. AreOfOneUser other a → ⊥) before → AllByRecursion (λ other. AreOfOneUser other b → ⊥) others
    → before ++ (a ∷ after) ≡ others ++ (b ∷ rest) → a ≡ b
one_split [] [] after rest a b one first second same = heads a b after rest same
one_split [] (d ∷ others) after rest a b one first second same = absurd (second.0 (subst (λ c. AreOfOneUser c b) (heads a d after (others ++ (b ∷ rest)) same) one))
one_split (c ∷ before) [] after rest a b one first second same = absurd (first.0 (subst (λ d. AreOfOneUser d a) (sym (heads c b (before ++ (a ∷ after)) rest same)) (sym one.0, sym one.1)))
one_split (c ∷ before) (d ∷ others) after rest a b one first second same = one_split before others after rest a b one first.1 second.1 (tails c d (before ++ (a ∷ after)) (others ++ (b ∷ rest)) same)

pub one_first_account : (accounts : List Account) (a b : Account) → IsFirstAccount accounts a → IsFirstAccount accounts b → AreOfOneUser a b → a ≡ b
one_first_account accounts a b p q one = one_split p.before q.before p.after q.after a b one p.first q.first (sym p.split ∙ q.split)

-- ---- the mechanisms that are listed

pub lists : (accounts : List Account) (user : List ℕ) (listed : Option Mechanisms) → IsTrue (is_listed listed Sha1) ↔ HasAccount accounts user Sha1 → IsTrue (is_listed listed Sha256) ↔ HasAccount accounts user Sha256 → ListsAccounts accounts user listed
lists accounts user listed one two Sha1 = one
lists accounts user listed one two Sha256 = two
