-- How the establishment that settings ask for comes out over their reply bytes.
use Rattle.std.specs.Prelude.{◌≡◌, ℕ, List, ◌++◌}
use Rattle.mongo_command.specs.Conversation.{IsSaid}
use Rattle.mongo_establish.specs.declared.options.TopologySpec.{TopologySpec}
use Rattle.mongo_establish.specs.Setup.{Setup, setup_for}
use Rattle.mongo_establish.specs.Options.{client_spec, options_of}
use Rattle.mongo_establish.specs.Script.{Script, IsScript, IsWritten, AreRepliesTaken, HasScript}
use Rattle.mongo_establish.specs.Stopped.{Refusal, IsRefusal}
use Rattle.mongo_settings.specs.declared.settings.Settings.{Settings}
use Rattle.mongo_settings.specs.declared.rehearsal.RehearsalStatus.{RehearsalStatus}
use Rattle.mongo_settings.specs.declared.rehearsal.RehearsalStatus.TheVariants.{Accepted, Refused}

-- what the establisher is made of
abbrev pub spec_of : Settings → TopologySpec
spec_of settings = client_spec settings.options settings.max_iterations

-- what settings ask for
unfoldable pub setup_of : Settings → Setup
setup_of settings = setup_for settings.pending (options_of (spec_of settings)) settings.credential settings.nonces settings.first_id

-- a script, and of the reply bytes what is taken and unread
pub record AcceptedConnection : Type 0 where
  pub script : Script
  pub taken : List ℕ
  pub unread : List ℕ

pub data Outcome : Type 0 where
  accepted : AcceptedConnection → Outcome
  refused : Refusal → Outcome

-- the reply bytes that are taken are exactly those of a script
pub record IsAcceptance (settings : Settings) (acceptance : AcceptedConnection) : Type 0 where
  pub is_script : IsScript (setup_of settings) acceptance.script
  pub joined : settings.replies ≡ acceptance.taken ++ acceptance.unread
  pub is_taken : AreRepliesTaken acceptance.script acceptance.taken

-- the outcome of settings: a script, or the first refusal that applies
abbrev pub IsOutcome : Settings → Outcome → Type 0
IsOutcome settings (accepted acceptance) = IsAcceptance settings acceptance
IsOutcome settings (refused refusal) = IsRefusal (setup_of settings) settings.replies refusal

-- the frames of its commands, joined
abbrev pub WritesOutcome : Settings → Outcome → List ℕ → Type 0
WritesOutcome settings (accepted acceptance) bytes = IsWritten (setup_of settings) acceptance.script bytes
WritesOutcome settings (refused refusal) bytes = IsSaid refusal.commands (setup_of settings).first_id bytes

-- the reply bytes that it takes
abbrev pub taken_by : Outcome → List ℕ
taken_by (accepted acceptance) = acceptance.taken
taken_by (refused refusal) = refusal.taken

abbrev pub status_of : Outcome → RehearsalStatus
status_of (accepted acceptance) = Accepted
status_of (refused refusal) = Refused

-- the reply bytes begin with a script's
abbrev pub LeadsToAcceptance : Settings → Type 0
LeadsToAcceptance settings = HasScript (setup_of settings) settings.replies

-- the reply bytes lead to a refusal
pub record IsRefused (settings : Settings) : Type 0 where
  pub refusal : Refusal
  pub is_refusal : IsRefusal (setup_of settings) settings.replies refusal
