-- What a relay between two links in memory tells.
use Rattle.std.proofs.Common.{◌≡◌, ℕ, ℤ, ◌+◌, ◌^◌, ◌<◌, ◌≤◌, Bool, true, false, Option, None, Some, Result, Ok, Err, IfOk, List, [], ◌∷◌, ◌++◌, length, flat_map, refl, sym, ap, ◌∙◌, subst, arith, length-append, drop}
use Rattle.std.proofs.lemmas.Nat.{from_le_bytes-to_le_bytes_4}
use Rattle.std.specs.Int.{from_le_bytes, w32}
use Rattle.std.specs.Io.KnownBytes.{Appends, Consumes}
use Rattle.std.specs.List.{AllByRecursion, concat}
use Rattle.mongo_wire.specs.Frame.{Frame, IsFrame, section_bytes}
use Rattle.mongo_wire.specs.Header.{maximum_of}
use Rattle.mongo_wire.specs.Memory.{memory_state, bytes_written}
use Rattle.mongo_wire.specs.Outside.{State, Rose, WriteStops, Unfailed}
use Rattle.mongo_wire.specs.Sending.{sections_frame}
use Rattle.mongo_wire.specs.declared.error.ErrorKind.{ErrorKind}
use Rattle.mongo_wire.specs.declared.error.ErrorKind.TheVariants.{OutOfMemory, WriteFault}
use Rattle.mongo_wire.specs.declared.memory_link.MemoryLink.{MemoryLink}
use Rattle.mongo_proxy.specs.RelayedFrames.{RelayedFrame, command, reply, commands, replies, Passed, Stand, Follow, IsNextOf, beginning, responds_to, sent_of, taken_of}
use Rattle.mongo_proxy.specs.Relays.{EndsWhole, HasRelayed, RelaysWhole, RelaysCut}
use Rattle.mongo_proxy.specs.Sides.{Sides, sides, Lasts}
use Rattle.mongo_proxy.specs.Stops.{StopsOn}
use Rattle.mongo_proxy.specs.declared.awaited.Awaited.{Awaited}
use Rattle.mongo_proxy.specs.declared.awaited.Awaited.TheVariants as awaited
use Rattle.mongo_proxy.specs.declared.relayed.Relayed.{Relayed}
use Rattle.mongo_proxy.specs.declared.relayed.RelayFault.{RelayFault}
use Rattle.mongo_proxy.specs.declared.relayed.Side.{Side}
use Rattle.mongo_proxy.specs.declared.relayed.Side.TheVariants.{Client, Server}
use Rattle.mongo_settings.specs.Report.{CountsItself}
use Rattle.mongo_settings.specs.declared.rehearsal.Rehearsal.{Rehearsal}
use Rattle.mongo_settings.specs.declared.rehearsal.RehearsalStatus.TheVariants.{Accepted, Refused}
use Rattle.mongo_login.specs.declared.proxy.ProxySettings.{ProxySettings}
use Rattle.mongo_login.specs.Proxy.{TellsCut, TellsRelay, TellsWhole, count_lines, fault_lines, in_memory, most_of, sent_frames, sides_of, traffic_lines}

-- ---- frames that tell their own lengths

counts_sent : (sent : List ℕ) (id to : ℤ) (flags : ℕ) (sections : List ℕ) → sent ≡ sections_frame id to flags sections → 20 + length sections < 2 ^ 32 → CountsItself sent
counts_sent sent id to flags sections spelled fits =
    let size : length sent ≡ 20 + length sections = omega (arith, ap length spelled) in
    record {
      header = omega (arith, size);
      counted = ap (from_le_bytes w32) spelled ∙ from_le_bytes-to_le_bytes_4 (20 + length sections) fits ∙ sym size;
    }

sections_fit : (frame : List ℕ) (parts : Frame) (is : IsFrame frame parts) → 20 + length (flat_map section_bytes is.sections) < 2 ^ 32
sections_fit frame parts is = omega (arith, ap length is.spelled, length-append (flat_map section_bytes is.sections) is.tail, is.length_fits)

command_counts : (waits : Awaited) (id : ℤ) (c : Passed) (after : Stand) → IsNextOf waits id (command c) after → CountsItself c.sent
command_counts awaited.Command id c after is = counts_sent c.sent c.id is.0.parts.response_to is.0.parts.flags (flat_map section_bytes is.0.is_frame.sections) is.0.sent_is (sections_fit c.frame is.0.parts is.0.is_frame)
command_counts (awaited.Reply asked) id c after is = absurd is

reply_counts : (waits : Awaited) (id : ℤ) (r : Passed) (after : Stand) → IsNextOf waits id (reply r) after → CountsItself r.sent
reply_counts awaited.Command id r after is = absurd is
reply_counts (awaited.Reply asked) id r after is = counts_sent r.sent r.id (responds_to asked is.0.parts.response_to) is.0.parts.flags (flat_map section_bytes is.0.is_frame.sections) is.0.sent_is (sections_fit r.frame is.0.parts is.0.is_frame)

command_frames : (before after : Stand) (relayed : List RelayedFrame) → Follow before relayed after → AllByRecursion CountsItself (sent_frames (commands relayed))
command_frames before after [] f = tt
command_frames before after (command c ∷ more) f = (command_counts before.awaited before.id c f.0 f.1, command_frames f.0 after more f.2)
command_frames before after (reply r ∷ more) f = command_frames f.0 after more f.2

reply_frames : (before after : Stand) (relayed : List RelayedFrame) → Follow before relayed after → AllByRecursion CountsItself (sent_frames (replies relayed))
reply_frames before after [] f = tt
reply_frames before after (command c ∷ more) f = reply_frames f.0 after more f.2
reply_frames before after (reply r ∷ more) f = (reply_counts before.awaited before.id r f.0 f.1, reply_frames f.0 after more f.2)

-- ---- what each side was sent

joined : (frames : List Passed) → sent_of frames ≡ concat (sent_frames frames)
joined [] = refl
joined (f ∷ frames) = ap (λ rest. f.sent ++ rest) (joined frames)

written_is : (written : Option (List ℕ)) (bytes sent : List ℕ) → Appends (Some []) written sent → Some bytes ≡ written → bytes ≡ sent
written_is None bytes sent appended is = absurd appended
written_is (Some all) bytes sent appended is =
    let same : bytes ≡ all = cc in
    same ∙ appended

-- what both sides were sent is the frames that were passed on
record Sent (relayed : List RelayedFrame) (client server : MemoryLink) : Type 0 where
  to_server : bytes_written server ≡ concat (sent_frames (commands relayed))
  to_client : bytes_written client ≡ concat (sent_frames (replies relayed))

sent : (maximum first : ℤ) (asked : ProxySettings) (between : Sides) (after : Stand) (relayed : List RelayedFrame) (client server : MemoryLink) → HasRelayed maximum first (sides_of asked) between after relayed
    → Some (bytes_written client) ≡ between.client.written → Some (bytes_written server) ≡ between.server.written → Sent relayed client server
sent maximum first asked between after relayed client server h client_is server_is = record {
  to_server = written_is between.server.written _ _ h.server.appended server_is ∙ joined (commands relayed);
  to_client = written_is between.client.written _ _ h.client.appended client_is ∙ joined (replies relayed);
}

-- ---- a relay to the end

whole_sent : (maximum first : ℤ) (asked : ProxySettings) (most : ℕ) (ended : Bool) (between : Sides) (after : Stand) (relayed : List RelayedFrame) (client server : MemoryLink) → HasRelayed maximum first (sides_of asked) between after relayed
    → EndsWhole ended most between (sides (memory_state client) (memory_state server)) after relayed → Sent relayed client server
whole_sent maximum first asked most false between after relayed client server h e = sent maximum first asked between after relayed client server h (ap (λ s. s.client.written) e.1) (ap (λ s. s.server.written) e.1)
whole_sent maximum first asked most true between after relayed client server h e = sent maximum first asked between after relayed client server h e.1.written (ap (λ s. s.written) e.1.server_is)

-- each frame is a byte at least of the side that it was taken from
frame_some : (frame : List ℕ) (parts : Frame) → IsFrame frame parts → 1 ≤ length frame
frame_some frame parts is = omega (arith, ap length is.spelled)

command_some : (waits : Awaited) (id : ℤ) (c : Passed) (after : Stand) → IsNextOf waits id (command c) after → 1 ≤ length c.frame
command_some awaited.Command id c after is = frame_some c.frame is.0.parts is.0.is_frame
command_some (awaited.Reply asked) id c after is = absurd is

reply_some : (waits : Awaited) (id : ℤ) (r : Passed) (after : Stand) → IsNextOf waits id (reply r) after → 1 ≤ length r.frame
reply_some awaited.Command id r after is = absurd is
reply_some (awaited.Reply asked) id r after is = frame_some r.frame is.0.parts is.0.is_frame

few : (before after : Stand) (relayed : List RelayedFrame) → Follow before relayed after → length relayed ≤ length (taken_of (commands relayed)) + length (taken_of (replies relayed))
few before after [] f = omega arith
few before after (command c ∷ more) f = omega (arith, few f.0 after more f.2, command_some before.awaited before.id c f.0 f.1, length-append c.frame (taken_of (commands more)))
few before after (reply r ∷ more) f = omega (arith, few f.0 after more f.2, reply_some before.awaited before.id r f.0 f.1, length-append r.frame (taken_of (replies more)))

-- what was taken is no more than there was
taken_within : (bytes taken : List ℕ) (left : Option (List ℕ)) → Consumes (Some bytes) left taken → length taken ≤ length bytes
taken_within bytes taken None c = absurd c
taken_within bytes taken (Some rest) c = omega (arith, ap length c, length-append taken rest)

-- so the client ended before as many frames were passed on as are wanted
whole_ended : (maximum first : ℤ) (asked : ProxySettings) (ended : Bool) (between new : Sides) (after : Stand) (relayed : List RelayedFrame) → HasRelayed maximum first (sides_of asked) between after relayed → EndsWhole ended (most_of asked) between new after relayed → ended ≡ true
whole_ended maximum first asked true between new after relayed h e = refl
whole_ended maximum first asked false between new after relayed h e =
    let sent_within = taken_within asked.commands (taken_of (commands relayed)) between.client.left h.client.consumed in
    let answered_within = taken_within asked.replies (taken_of (replies relayed)) between.server.left h.server.consumed in
    absurd (omega (arith, e.0, few (beginning first) after relayed h.follow, sent_within, answered_within))

-- the lines of just these bytes, behind which these stand
abbrev pub TellsSent : List ℕ → List ℕ → List ℕ → List ℕ → Type 0
TellsSent to_server to_client rest text = (sent answered : List (List ℕ)) → AllByRecursion CountsItself sent → AllByRecursion CountsItself answered → to_server ≡ concat sent → to_client ≡ concat answered → text ≡ traffic_lines sent answered ++ rest

pub tells_whole : (asked : ProxySettings) (first last : ℤ) (most : ℕ) (old : Sides) (client server : MemoryLink) (done : Relayed) (text : List ℕ) → old ≡ sides_of asked → first ≡ asked.first_id → most ≡ most_of asked
    → RelaysWhole (maximum_of None) most first last old (sides (memory_state client) (memory_state server)) done → TellsSent (bytes_written server) (bytes_written client) (count_lines done) text → TellsWhole asked text
tells_whole asked first last most old client server done text old_is first_is most_is whole told =
    let new = sides (memory_state client) (memory_state server) in
    let from = subst (λ o. RelaysWhole (maximum_of None) most first last o new done) old_is whole in
    let named = subst (λ f. RelaysWhole (maximum_of None) most f last (sides_of asked) new done) first_is from in
    let w = subst (λ m. RelaysWhole (maximum_of None) m asked.first_id last (sides_of asked) new done) most_is named in
    let s = whole_sent (maximum_of None) asked.first_id asked (most_of asked) done.ended w.between w.after w.relayed client server w.has_relayed w.ends in
    record {
      done = done;
      ended = whole_ended (maximum_of None) asked.first_id asked done.ended w.between new w.after w.relayed w.has_relayed w.ends;
      last = last;
      after = new;
      relays = w;
      text_is = told (sent_frames (commands w.relayed)) (sent_frames (replies w.relayed)) (command_frames (beginning asked.first_id) w.after w.relayed w.has_relayed.follow) (reply_frames (beginning asked.first_id) w.after w.relayed w.has_relayed.follow) s.to_server s.to_client;
    }

-- ---- a relay that was refused

-- links in memory never fail
never_rose : Rose 0 0 → ⊥
never_rose r = omega (arith, r)

unfailed : (bytes : List ℕ) (link : MemoryLink) → Unfailed (in_memory bytes) (memory_state link)
unfailed bytes link = record { reads = never_rose; writes = never_rose }

-- A side that counts no fault stops taking bytes for want of memory alone.
no_stop : (kind : ErrorKind) (old mid : State) (link : MemoryLink) (bytes : List ℕ) → old.write_faults ≡ 0 → Lasts old mid → (kind ≡ OutOfMemory → ⊥) → WriteStops kind mid (memory_state link) bytes → ⊥
no_stop OutOfMemory old mid link bytes none lasts other stops = other refl
no_stop WriteFault old mid link bytes none lasts other stops = never_rose (subst (λ count. Rose count 0) (lasts.writes ∙ none) stops.0)
no_stop kind old mid link bytes none lasts other stops = stops

-- what ended it left both sides what they had been sent
record Kept (between : Sides) (client server : MemoryLink) : Type 0 where
  client_is : Some (bytes_written client) ≡ between.client.written
  server_is : Some (bytes_written server) ≡ between.server.written

kept : (side : Side) (kind : ErrorKind) (maximum first id last : ℤ) (asked : ProxySettings) (relayed : List RelayedFrame) (between : Sides) (client server : MemoryLink) (waits : Awaited) (after : Stand) → HasRelayed maximum first (sides_of asked) between after relayed
    → (kind ≡ OutOfMemory → ⊥) → StopsOn side waits maximum between (sides (memory_state client) (memory_state server)) id last kind → Kept between client server
kept Client kind maximum first id last asked relayed between client server awaited.Command after h other n = record { client_is = n.on.unwritten.written; server_is = ap (λ s. s.written) n.server_is }
kept Server kind maximum first id last asked relayed between client server awaited.Command after h other n = absurd (no_stop kind (sides_of asked).server between.server server n.command.sent refl h.server.lasts other n.stops.stops)
kept Server kind maximum first id last asked relayed between client server (awaited.Reply ask) after h other n = record { client_is = ap (λ s. s.written) n.client_is; server_is = n.on.unwritten.written }
kept Client kind maximum first id last asked relayed between client server (awaited.Reply ask) after h other n = absurd (no_stop kind (sides_of asked).client between.client client n.reply.sent refl h.client.lasts other n.stops.stops)

pub tells_cut : (asked : ProxySettings) (first last : ℤ) (most : ℕ) (old : Sides) (client server : MemoryLink) (fault : RelayFault) (text : List ℕ) → old ≡ sides_of asked → first ≡ asked.first_id → most ≡ most_of asked
    → RelaysCut (maximum_of None) most first last old (sides (memory_state client) (memory_state server)) fault → (fault.error.kind ≡ OutOfMemory → ⊥) → TellsSent (bytes_written server) (bytes_written client) (count_lines fault.done ++ fault_lines fault) text → TellsCut asked text
tells_cut asked first last most old client server fault text old_is first_is most_is cut other told =
    let new = sides (memory_state client) (memory_state server) in
    let from = subst (λ o. RelaysCut (maximum_of None) most first last o new fault) old_is cut in
    let named = subst (λ f. RelaysCut (maximum_of None) most f last (sides_of asked) new fault) first_is from in
    let c = subst (λ m. RelaysCut (maximum_of None) m asked.first_id last (sides_of asked) new fault) most_is named in
    let k = kept fault.side fault.error.kind (maximum_of None) asked.first_id c.after.id last asked c.relayed c.between client server c.after.awaited c.after c.has_relayed other c.stops in
    let s = sent (maximum_of None) asked.first_id asked c.between c.after c.relayed client server c.has_relayed k.client_is k.server_is in
    record {
      fault = fault;
      last = last;
      after = new;
      relays = c;
      unfailed = record { client = unfailed asked.commands client; server = unfailed asked.replies server };
      cause = other;
      text_is = told (sent_frames (commands c.relayed)) (sent_frames (replies c.relayed)) (command_frames (beginning asked.first_id) c.after c.relayed c.has_relayed.follow) (reply_frames (beginning asked.first_id) c.after c.relayed c.has_relayed.follow) s.to_server s.to_client;
    }

-- ---- what is answered

-- a link that never failed, by its parts
abbrev parts : List ℕ → ℕ → List ℕ → ℕ → State
parts left ends written flushed = record { left = Some left; read_faults = 0; ends = ends; written = Some written; flushed = flushed; write_faults = 0 }

pub memory_new : (link : MemoryLink) (bytes : List ℕ) → link.input.items ≡ bytes → link.at ≡ 0 → link.output.items ≡ [] → link.flushed ≡ 0 → link.ends ≡ 0 → memory_state link ≡ in_memory bytes
memory_new link bytes input at output flushed ends =
    ap (λ i. parts (drop link.at i) link.ends link.output.items link.flushed) input ∙ ap (λ a. parts (drop a bytes) link.ends link.output.items link.flushed) at ∙ ap (λ e. parts bytes e link.output.items link.flushed) ends
    ∙ ap (λ o. parts bytes 0 o link.flushed) output ∙ ap (λ f. parts bytes 0 [] f) flushed

pub two_sides : (client server : MemoryLink) (asked : ProxySettings) → memory_state client ≡ in_memory asked.commands → memory_state server ≡ in_memory asked.replies → sides (memory_state client) (memory_state server) ≡ sides_of asked
two_sides client server asked c s = rw (c, s) refl

pub whole_told : {E : Type 0} (asked : ProxySettings) (to_server to_client rest : List ℕ) (result : Result Rehearsal E) → IfOk result (λ made. made.status ≡ Accepted) → IfOk result (λ made. TellsSent to_server to_client rest made.report.items)
    → ((text : List ℕ) → TellsSent to_server to_client rest text → TellsWhole asked text) → IfOk result (λ made. TellsRelay asked made.status made.report.items)
whole_told asked to_server to_client rest (Ok made) status lines tells = subst (λ s. TellsRelay asked s made.report.items) (sym status) (tells made.report.items lines)
whole_told asked to_server to_client rest (Err e) status lines tells = tt

pub cut_told : {E : Type 0} (asked : ProxySettings) (to_server to_client rest : List ℕ) (fault : RelayFault) (result : Result Rehearsal E) → IfOk result (λ made. made.status ≡ Refused) → IfOk result (λ made. fault.error.kind ≡ OutOfMemory → ⊥) → IfOk result (λ made. TellsSent to_server to_client rest made.report.items)
    → ((text : List ℕ) → (fault.error.kind ≡ OutOfMemory → ⊥) → TellsSent to_server to_client rest text → TellsCut asked text) → IfOk result (λ made. TellsRelay asked made.status made.report.items)
cut_told asked to_server to_client rest fault (Ok made) status cause lines tells = subst (λ s. TellsRelay asked s made.report.items) (sym status) (tells made.report.items cause lines)
cut_told asked to_server to_client rest fault (Err e) status cause lines tells = tt
