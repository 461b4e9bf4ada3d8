-- How a server stands between two requests.
use Rattle.std.specs.Prelude.{ℕ, ℤ, Option, List}
use Rattle.mongo_wire.specs.Outside.{State}
use Rattle.mongo_session.specs.declared.session.Session.{Session}
use Rattle.mongo_service.specs.declared.serve.Serving.{Serving}

-- what the next reply goes by: the session, and the reply's id
pub record Basis : Type 0 where
  pub session : Session
  pub id : ℤ

abbrev pub basis : Session → ℤ → Basis
basis session id = record { session = session; id = id }

-- that of what a server keeps from one request to the next
abbrev pub basis_of : Serving → Basis
basis_of serving = basis serving.session serving.ids

-- how a server stands at a moment: its link, the counter of steps, and what the next reply goes by
pub record Juncture : Type 0 where
  pub state : State
  pub steps : ℕ
  pub basis : Basis

abbrev pub juncture : State → ℕ → Basis → Juncture
juncture state steps basis = record { state = state; steps = steps; basis = basis }

-- who is logged in then
abbrev pub user_at : Juncture → Option (List ℕ)
user_at now = now.basis.session.user
