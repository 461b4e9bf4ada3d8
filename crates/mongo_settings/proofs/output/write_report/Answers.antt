use Rattle.std.proofs.Common.{rules, ◌≡◌, ◌∙◌, ap, ℕ, sym, subst, Option, None, Some, Result, Ok, Err, List, length, OnErr}
use Rattle.std.proofs.Math.Seq.{take-length}
use Rattle.std.specs.Io.KnownBytes.{Appends, Keeps}
use Rattle.mongo_wire.proofs.Written.{error_passed_on}
use Rattle.mongo_wire.specs.Outside.{State, AppendsFront, WriteCounts, risen}
use Rattle.mongo_wire.specs.declared.outside.SinkError.{SinkError}
use Rattle.mongo_wire.specs.declared.outside.SinkError.TheVariants.{Failed, OutOfMemory}
use Rattle.mongo_settings.proofs.output.write_report.Goals as goal

kept : (old mid new : Option (List ℕ)) (bytes : List ℕ) → Appends old mid bytes → Keeps mid new → Appends old new bytes
kept None mid new bytes grown still = tt
kept (Some front) None new bytes grown still = absurd grown
kept (Some front) (Some all) None bytes grown still = absurd still
kept (Some front) (Some all) (Some same) bytes grown still = cc

-- the whole text is a front of it
whole : {A E : Type 0} (r : Result A E) (old mid new : Option (List ℕ)) (text : List ℕ) → Appends old mid text → Keeps mid new → OnErr r (AppendsFront old new text)
whole (Ok x) old mid new text grown still = tt
whole (Err e) old mid new text grown still = (length text, subst (Appends old new) (sym (take-length text)) (kept old mid new text grown still))

-- what a flush counts after a write that counted nothing
counted : {A : Type 0} (r : Result A SinkError) (old mid new : State) → mid.write_faults ≡ old.write_faults → WriteCounts r mid new → WriteCounts r old new
counted (Ok x) old mid new still counts = counts ∙ still
counted (Err Failed) old mid new still counts = counts ∙ ap risen still
counted (Err OutOfMemory) old mid new still counts = counts ∙ still

pub returns-in_err-write_all-clause-exact : goal.returns-in_err-write_all-clause-exact
returns-in_err-write_all-clause-exact g c = rw (error_passed_on c.from_residual.result c.in_err-write_all.field-0.0 c.from_residual.ensures.1) c.in_err-write_all.ensures.exact

pub returns-clause-exact : goal.returns-clause-exact
returns-clause-exact g c = counted c.flush.result _ _ _ c.in_ok-write_all.ensures.exact c.flush.ensures.exact

pub returns-clause-refused : goal.returns-clause-refused
returns-clause-refused g c = whole c.flush.result _ _ _ c.args.text.now c.in_ok-write_all.ensures.written c.flush.ensures.bytes

pub returns-clause-flushed : goal.returns-clause-flushed
returns-clause-flushed g c = search rules
