-- The subcommands, by the words after the program's name.
use Rattle.std.specs.Prelude.{◌≡◌, ℕ, ◌≤◌, List, [], ◌∷◌, codes, decimal}
use Rattle.mongo_settings.specs.declared.task.Task.TheVariants as task
use Rattle.mongo_login.specs.declared.job.Job.{Job}
use Rattle.mongo_login.specs.declared.job.Job.TheVariants.{Login, Proxy}
use Rattle.mongo_login.specs.declared.words.Subcommand.{Subcommand}
use Rattle.mongo_login.specs.declared.words.Subcommand.TheVariants.{Read, Generate}

-- a job that reads a text
abbrev pub job_name : Job → List ℕ
job_name (Login task.Rehearse) = codes "rehearse"
job_name (Login task.Batch) = codes "batch"
job_name Proxy = codes "proxy"

abbrev pub generate_word : List ℕ
generate_word = codes "generate"

-- the maximum of logins that one run makes
abbrev pub maximum_logins : ℕ
maximum_logins = 1000

-- the word is the number in decimal digits, without a sign or a leading zero
pub record IsCountWord (word : List ℕ) (count : ℕ) : Type 0 where
  pub digits : word ≡ decimal count
  pub some : 1 ≤ count
  pub within : count ≤ maximum_logins

-- a job's name alone, or `generate` and a number
abbrev pub NamesSubcommand : List (List ℕ) → Subcommand → Type 0
NamesSubcommand words (Read job) = words ≡ job_name job ∷ []
NamesSubcommand words (Generate count) = (number : List ℕ) × (words ≡ generate_word ∷ number ∷ []) × IsCountWord number count

abbrev pub NamesNone : List (List ℕ) → Type 0
NamesNone words = (command : Subcommand) → NamesSubcommand words command → ⊥
