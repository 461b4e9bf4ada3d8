-- Where a client runs, by the handshake specification: the provider that runs it as a function, and its container.
use Rattle.std.specs.Prelude.{ℕ, ℤ, ◌||◌, Bool, true, false, Option, None, Some, List, [], ◌∷◌, codes, filter, flat_map, nat_eq, is_none, ◌&&◌, if◌then◌else◌}
use Rattle.std.specs.List.{starts_with}
use Rattle.mongo_bson.specs.Document.{Element}
use Rattle.mongo_command.specs.Literal.{text_element, document_of}
use Rattle.mongo_meta.specs.declared.environment.Environment.{Environment}
use Rattle.mongo_meta.specs.declared.faas.FaasEnvironmentName.{FaasEnvironmentName}
use Rattle.mongo_meta.specs.declared.faas.FaasEnvironmentName.TheVariants.{AwsLambda, AzureFunc, GcpFunc, Vercel}
use Rattle.mongo_meta.specs.declared.runtime_environment.RuntimeEnvironment.{RuntimeEnvironment}
use Rattle.mongo_meta.specs.Keys.{runtime_key}
use Rattle.mongo_meta.specs.Variables.{variable_value, is_set, number_under}

abbrev pub name_text : FaasEnvironmentName → List ℕ
name_text AwsLambda = codes "aws.lambda"
name_text AzureFunc = codes "azure.func"
name_text GcpFunc = codes "gcp.func"
name_text Vercel = codes "vercel"

-- ---- the table of providers

-- the variables that show a provider and say what it runs functions on
abbrev pub aws_execution_env : List ℕ
aws_execution_env = codes "AWS_EXECUTION_ENV"

abbrev pub functions_worker_runtime : List ℕ
functions_worker_runtime = codes "FUNCTIONS_WORKER_RUNTIME"

-- whether a provider's variables are there, and what is taken of them
pub record ProviderSigns : Type 0 where
  pub found : Bool
  pub runtime : Option (List ℕ)
  pub timeout_sec : Option ℤ
  pub memory_mb : Option ℤ
  pub region : Option (List ℕ)

abbrev pub begins_with : List ℕ → Option (List ℕ) → Bool
begins_with start None = false
begins_with start (Some value) = starts_with nat_eq value start

-- a provider of whose variables nothing is taken
abbrev pub found_by : Bool → ProviderSigns
found_by found = record { found = found; runtime = None; timeout_sec = None; memory_mb = None; region = None }

abbrev pub provider : FaasEnvironmentName → Environment → ProviderSigns
provider AwsLambda env = record (found_by (begins_with (codes "AWS_Lambda_") (variable_value aws_execution_env env) || is_set (codes "AWS_LAMBDA_RUNTIME_API") env)) {
  runtime = variable_value aws_execution_env env;
  memory_mb = number_under (codes "AWS_LAMBDA_FUNCTION_MEMORY_SIZE") env;
  region = variable_value (codes "AWS_REGION") env;
}
provider Vercel env = record (found_by (is_set (codes "VERCEL") env)) {
  region = variable_value (codes "VERCEL_REGION") env;
}
provider AzureFunc env = record (found_by (is_set functions_worker_runtime env)) {
  runtime = variable_value functions_worker_runtime env;
}
provider GcpFunc env = record (found_by (is_set (codes "K_SERVICE") env || is_set (codes "FUNCTION_NAME") env)) {
  timeout_sec = number_under (codes "FUNCTION_TIMEOUT_SEC") env;
  memory_mb = number_under (codes "FUNCTION_MEMORY_MB") env;
  region = variable_value (codes "FUNCTION_REGION") env;
}

abbrev pub providers_in : Environment → List FaasEnvironmentName
providers_in env = filter (λ name. (provider name env).found) (AwsLambda ∷ Vercel ∷ AzureFunc ∷ GcpFunc ∷ [])

-- the one that stands alone; Vercel wins over Lambda, and no other two give a name
abbrev pub one_of : List FaasEnvironmentName → Option FaasEnvironmentName
one_of (name ∷ []) = Some name
one_of (AwsLambda ∷ Vercel ∷ []) = Some Vercel
one_of names = None

abbrev pub name_in : Environment → Option FaasEnvironmentName
name_in env = one_of (providers_in env)

-- ---- the container

abbrev pub element_if : Bool → Element → List Element
element_if true e = e ∷ []
element_if false e = []

abbrev pub container_elements : Environment → List (List Element)
container_elements env =
    element_if env.dockerenv (text_element runtime_key (codes "docker"))
    ∷ element_if (is_set (codes "KUBERNETES_SERVICE_HOST") env) (text_element (codes "orchestrator") (codes "kubernetes"))
    ∷ []

-- there is none where it would be empty
abbrev pub document_unless_empty : List Element → Option (List ℕ)
document_unless_empty [] = None
document_unless_empty (e ∷ es) = Some (document_of (e ∷ es))

abbrev pub container_in : Environment → Option (List ℕ)
container_in env = document_unless_empty (flat_map (λ es. es) (container_elements env))

-- ---- the runtime environment

abbrev pub unset : RuntimeEnvironment
unset = record { name = None; runtime = None; timeout_sec = None; memory_mb = None; region = None; container = None }

abbrev pub taken_of : FaasEnvironmentName → ProviderSigns → RuntimeEnvironment
taken_of name p = record { name = Some name; runtime = p.runtime; timeout_sec = p.timeout_sec; memory_mb = p.memory_mb; region = p.region; container = None }

-- what is taken of the provider's variables
abbrev pub taken_in : Option FaasEnvironmentName → Environment → RuntimeEnvironment
taken_in None env = unset
taken_in (Some name) env = taken_of name (provider name env)

abbrev pub is_unset : RuntimeEnvironment → Bool
is_unset r = is_none r.name && (is_none r.runtime && (is_none r.timeout_sec && (is_none r.memory_mb && (is_none r.region && is_none r.container))))

-- there is none where it would hold nothing
abbrev pub unless_unset : RuntimeEnvironment → Option RuntimeEnvironment
unless_unset r = if is_unset r then None else Some r

unfoldable pub runtime_environment_in : Environment → Option RuntimeEnvironment
runtime_environment_in env = unless_unset (record (taken_in (name_in env) env) { container = container_in env })
