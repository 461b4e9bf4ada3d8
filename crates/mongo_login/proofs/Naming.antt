-- Words name one subcommand.
use Rattle.std.specs.Prelude.{bytes_eq, codes, if◌then◌else◌}
use Rattle.std.proofs.Common.{◌≡◌, ℕ, ◌∙◌, refl, sym, ap, List, [], ◌∷◌, Bool, false, Result, Ok, Err, IsTrue, ◌↔◌, subst, arith}
use Rattle.std.specs.Str.Parse.{ParsesUnsigned}
use Rattle.std.proofs.lemmas.Fmt.{parse-decimal}
use Rattle.mongo_settings.specs.declared.task.Task.TheVariants as task
use Rattle.mongo_login.specs.declared.job.Job.{Job}
use Rattle.mongo_login.specs.declared.job.Job.TheVariants.{Login, Proxy}
use Rattle.mongo_login.specs.declared.words.Subcommand.TheVariants.{Read, Generate}
use Rattle.mongo_login.specs.Words.{job_name, generate_word, IsCountWord, NamesSubcommand}

-- the job that a name is read back as
read_back : List ℕ → Job
read_back name = if bytes_eq name (codes "batch") then Login task.Batch else (if bytes_eq name (codes "proxy") then Proxy else Login task.Rehearse)

name_back : (job : Job) → read_back (job_name job) ≡ job
unfolding read_back
name_back (Login task.Rehearse) = refl
name_back (Login task.Batch) = refl
name_back Proxy = refl

one_word : (a b : List ℕ) (words : List (List ℕ)) → words ≡ a ∷ [] → words ≡ b ∷ [] → a ≡ b
one_word a b words p q = cc

-- words name one job
pub one_job : (words : List (List ℕ)) (job other : Job) → NamesSubcommand words (Read job) → NamesSubcommand words (Read other) → other ≡ job
one_job words job other p q = sym (name_back other) ∙ ap read_back (sym (one_word (job_name job) (job_name other) words p q)) ∙ name_back job

one_or_two : (a b c : List ℕ) (words : List (List ℕ)) → words ≡ a ∷ [] → words ≡ b ∷ c ∷ [] → ⊥
one_or_two a b c words p q = cc

-- one word is no pair of them
pub not_both : (words : List (List ℕ)) (job : Job) (count : ℕ) → NamesSubcommand words (Read job) → NamesSubcommand words (Generate count) → ⊥
not_both words job count p q = one_or_two (job_name job) generate_word q.0 words p q.1

-- a word that is a count is read as it
pub count_word_read : {E : Type 0} (word : List ℕ) (count : ℕ) (r : Result ℕ E) → IsCountWord word count → ParsesUnsigned 32 10 word r → r ≡ Ok count
count_word_read word count r is parses =
    let fits = is.within in parse-decimal 32 count word r (omega (arith, fits)) (omega (arith, fits)) is.digits parses

one_number : {E : Type 0} (r : Result ℕ E) (n count : ℕ) → r ≡ Ok n → r ≡ Ok count → count ≡ n
one_number r n count p q = cc

no_number : {E : Type 0} (r : Result ℕ E) (e : E) (count : ℕ) → r ≡ Err e → r ≡ Ok count → ⊥
no_number r e count p q = cc

untrue : (b : Bool) → IsTrue b → b ≡ false → ⊥
untrue b t f = cc

-- a word that is read as a number which it doesn't spell is no count
pub no_other : {E : Type 0} (word : List ℕ) (r : Result ℕ E) (n : ℕ) (b : Bool) → r ≡ Ok n → ParsesUnsigned 32 10 word r → (IsTrue b ↔ IsCountWord word n) → b ≡ false → (count : ℕ) → IsCountWord word count → ⊥
no_other word r n b is parses judged other count counts =
    let same = one_number r n count is (count_word_read word count r counts parses) in untrue b (judged.1 (subst (IsCountWord word) same counts)) other

-- nor is one that is read as none
pub unread : {E : Type 0} (word : List ℕ) (r : Result ℕ E) (e : E) → r ≡ Err e → ParsesUnsigned 32 10 word r → (count : ℕ) → IsCountWord word count → ⊥
unread word r e is parses count counts = no_number r e count is (count_word_read word count r counts parses)
