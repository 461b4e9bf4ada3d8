-- A frame that was read and is passed on.
use Rattle.std.proofs.Common.{◌≡◌, ℕ, ℤ, ◌≤◌, ◌+◌, List, [], length, inl, refl, sym, ap, ◌∙◌, subst, arith, length-append}
use Rattle.std.proofs.KnownBytes.{Appends-nil, Consumes-nil}
use Rattle.std.proofs.lemmas.Int.{ints}
use Rattle.std.specs.List.{flat_map}
use Rattle.std.specs.Io.KnownBytes.{Appends, Consumes}
use Rattle.mongo_wire.specs.Bytes.{next_id}
use Rattle.mongo_wire.specs.Frame.{section_bytes}
use Rattle.mongo_wire.specs.Outside.{State, IsFlushed, ReadsOn, WritesOn, WriteStops}
use Rattle.mongo_wire.specs.Ref.{IsFrameRead}
use Rattle.mongo_wire.specs.Sending.{sections_frame, SectionsFit}
use Rattle.mongo_wire.specs.declared.error.ErrorKind.{ErrorKind}
use Rattle.mongo_wire.specs.declared.message_ref.MessageRef.{MessageRef}
use Rattle.mongo_proxy.specs.RelayedFrames.{Passed, IsCommand, IsReplyTo, after_command, after_reply, responds_to}
use Rattle.mongo_proxy.specs.Sides.{sides, Carries}
use Rattle.mongo_proxy.specs.Stops.{CommandCut, ReplyCut, SendStops, Takes}
use Rattle.mongo_proxy.specs.Turn.{CommandPassed, ReplyPassed}
use Rattle.mongo_proxy.specs.declared.awaited.Asked.{Asked}
use Rattle.mongo_proxy.specs.declared.awaited.Awaited.{Awaited}
use Rattle.mongo_proxy.proofs.Flushed.{lasts_read, lasts_write, sent_flushed}

-- its sections fit where it did
pub read_fits : (maximum : ℤ) (old new : State) (r : MessageRef) → IsFrameRead maximum old new r → SectionsFit maximum r.sections.now
read_fits maximum old new r h =
    let is = h.ref_of.is_frame in
    let sections = flat_map section_bytes is.sections in
    let size : 20 + length r.sections.now ≤ length h.frame = omega (arith, ap length is.spelled, length-append sections is.tail, ap length h.ref_of.sections_are) in
    record { positive = omega (arith, ints, h.within); within = omega (arith, ints, h.within, size) }

-- what it is passed on as
abbrev passed_as : List ℕ → ℤ → ℤ → MessageRef → Passed
passed_as frame id to r = record { frame = frame; id = id; sent = sections_frame id to r.flags.0 r.sections.now }

-- what a message is sent as is by the parts of its frame
sent_as : (frame : List ℕ) (id to re : ℤ) (flags of : ℕ) (sections bytes : List ℕ) → to ≡ re → flags ≡ of → sections ≡ bytes → sections_frame id to flags sections ≡ sections_frame id re of bytes
sent_as frame id to re flags of sections bytes p q r =
    ap (λ t. sections_frame id t flags sections) p ∙ ap (λ f. sections_frame id re f sections) q ∙ ap (λ s. sections_frame id re of s) r

command_read : (maximum : ℤ) (old new : State) (r : MessageRef) (id : ℤ) (h : IsFrameRead maximum old new r)
    → IsCommand id (passed_as h.frame id r.header.response_to r) (after_command r.flags.0 (record { original_id = r.header.request_id; drawn_id = id }))
command_read maximum old new r id h =
    let ref = h.ref_of in
    record {
      parts = h.parts;
      is_frame = ref.is_frame;
      id_is = refl;
      sent_is = sent_as h.frame id r.header.response_to h.parts.response_to r.flags.0 h.parts.flags r.sections.now (flat_map section_bytes ref.is_frame.sections) (ap (λ z. z.response_to) ref.header_is) ref.flags_are ref.sections_are;
      after_is =
          ap (λ f. after_command f (record { original_id = r.header.request_id; drawn_id = id })) ref.flags_are ∙ ap (λ z. after_command h.parts.flags (record { original_id = z.request_id; drawn_id = id })) ref.header_is;
    }

reply_read : (maximum : ℤ) (old new : State) (r : MessageRef) (asked : Asked) (h : IsFrameRead maximum old new r)
    → IsReplyTo asked (passed_as h.frame r.header.request_id (responds_to asked r.header.response_to) r) (after_reply r.flags.0 asked)
reply_read maximum old new r asked h =
    let ref = h.ref_of in
    record {
      parts = h.parts;
      is_frame = ref.is_frame;
      id_is = ap (λ z. z.request_id) ref.header_is;
      sent_is = sent_as h.frame r.header.request_id (responds_to asked r.header.response_to) (responds_to asked h.parts.response_to) r.flags.0 h.parts.flags r.sections.now (flat_map section_bytes ref.is_frame.sections)
          (ap (λ z. responds_to asked z.response_to) ref.header_is) ref.flags_are ref.sections_are;
      after_is = ap (λ f. after_reply f asked) ref.flags_are;
    }

-- ---- what a side comes to

taken_whole : (maximum : ℤ) (old new : State) (r : MessageRef) (h : IsFrameRead maximum old new r) → ReadsOn old new → Takes maximum old new h.frame
taken_whole maximum old new r h on = record { consumed = h.taken; within = h.within; on = on; lasts = lasts_read old new h.unstopped on }

taken_alone : (maximum : ℤ) (old new : State) (r : MessageRef) (h : IsFrameRead maximum old new r) → ReadsOn old new → Carries old new h.frame []
taken_alone maximum old new r h on = record {
  consumed = h.taken;
  appended = subst (λ w. Appends old.written w []) (sym on.unwritten.written) (Appends-nil old.written);
  flushed = inl refl;
  lasts = lasts_read old new h.unstopped on;
}

sent_alone : (old new : State) (sent : List ℕ) → Appends old.written new.written sent → IsFlushed new → new.write_faults ≡ old.write_faults → WritesOn old new → Carries old new [] sent
sent_alone old new sent appended flushed still on = record {
  consumed = subst (λ l. Consumes old.left l []) (sym on.unread.left) (Consumes-nil old.left);
  appended = appended;
  flushed = sent_flushed old new sent appended flushed;
  lasts = lasts_write old new still on;
}

sent_in_part : (kind : ErrorKind) (old new : State) (sent : List ℕ) → WriteStops kind old new sent → WritesOn old new → SendStops kind old new sent
sent_in_part kind old new sent stops on = record { stops = stops; unread = on.unread; flushed = on.flushed_stays }

-- ---- a command

pub command_passed : (maximum : ℤ) (old new s t : State) (r : MessageRef) (id last : ℤ) (after : Awaited) → IsFrameRead maximum old new r → ReadsOn old new
    → Appends s.written t.written (sections_frame id r.header.response_to r.flags.0 r.sections.now) → IsFlushed t → t.write_faults ≡ s.write_faults → WritesOn s t
    → after ≡ after_command r.flags.0 (record { original_id = r.header.request_id; drawn_id = id }) → last ≡ next_id id → CommandPassed maximum (sides old s) (sides new t) id last after
command_passed maximum old new s t r id last after h on sent flushed still wrote is drawn = record {
  command = passed_as h.frame id r.header.response_to r;
  is_command = subst (IsCommand id (passed_as h.frame id r.header.response_to r)) (sym is) (command_read maximum old new r id h);
  within = h.within;
  client = taken_alone maximum old new r h on;
  server = sent_alone s t (sections_frame id r.header.response_to r.flags.0 r.sections.now) sent flushed still wrote;
  drawn = drawn;
}

pub command_cut : (maximum : ℤ) (old new s t : State) (r : MessageRef) (id last : ℤ) (kind : ErrorKind) → IsFrameRead maximum old new r → ReadsOn old new
    → WriteStops kind s t (sections_frame id r.header.response_to r.flags.0 r.sections.now) → WritesOn s t → last ≡ next_id id → CommandCut maximum (sides old s) (sides new t) id last kind
command_cut maximum old new s t r id last kind h on stops wrote drawn = record {
  command = passed_as h.frame id r.header.response_to r;
  after = after_command r.flags.0 (record { original_id = r.header.request_id; drawn_id = id });
  is_command = command_read maximum old new r id h;
  taken = taken_whole maximum old new r h on;
  stops = sent_in_part kind s t (sections_frame id r.header.response_to r.flags.0 r.sections.now) stops wrote;
  drawn = drawn;
}

-- ---- a reply

pub reply_passed : (maximum : ℤ) (old new s t : State) (r : MessageRef) (asked : Asked) (to : ℤ) (after : Awaited) → IsFrameRead maximum s t r → ReadsOn s t → to ≡ responds_to asked r.header.response_to
    → Appends old.written new.written (sections_frame r.header.request_id to r.flags.0 r.sections.now) → IsFlushed new → new.write_faults ≡ old.write_faults → WritesOn old new
    → after ≡ after_reply r.flags.0 asked → ReplyPassed maximum asked (sides old s) (sides new t) after
reply_passed maximum old new s t r asked to after h on responds sent flushed still wrote is =
    let spelled = ap (λ z. sections_frame r.header.request_id z r.flags.0 r.sections.now) responds in
    let whole = passed_as h.frame r.header.request_id (responds_to asked r.header.response_to) r in
    record {
      reply = whole;
      is_reply = subst (IsReplyTo asked whole) (sym is) (reply_read maximum s t r asked h);
      within = h.within;
      client = sent_alone old new whole.sent (subst (Appends old.written new.written) spelled sent) flushed still wrote;
      server = taken_alone maximum s t r h on;
    }

pub reply_cut : (maximum : ℤ) (old new s t : State) (r : MessageRef) (asked : Asked) (to id : ℤ) (kind : ErrorKind) → IsFrameRead maximum s t r → ReadsOn s t → to ≡ responds_to asked r.header.response_to
    → WriteStops kind old new (sections_frame r.header.request_id to r.flags.0 r.sections.now) → WritesOn old new → ReplyCut maximum asked (sides old s) (sides new t) id id kind
reply_cut maximum old new s t r asked to id kind h on responds stops wrote =
    let spelled = ap (λ z. sections_frame r.header.request_id z r.flags.0 r.sections.now) responds in
    let whole = passed_as h.frame r.header.request_id (responds_to asked r.header.response_to) r in
    record {
      reply = whole;
      after = after_reply r.flags.0 asked;
      is_reply = reply_read maximum s t r asked h;
      taken = taken_whole maximum s t r h on;
      stops = sent_in_part kind old new whole.sent (subst (WriteStops kind old new) spelled stops) wrote;
      undrawn = refl;
    }
