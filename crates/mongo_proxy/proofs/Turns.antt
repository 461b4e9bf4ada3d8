-- One turn, by what its half comes to.
use Rattle.std.proofs.Common.{◌≡◌, ℤ, Option, None, Some, Result, Ok, Err, [], refl, sym, subst, append-nil, inl, inr, arith}
use Rattle.std.proofs.lemmas.Int.{ints}
use Rattle.mongo_wire.specs.Buffer.{StaysWithin}
use Rattle.mongo_wire.specs.declared.frame_buffer.FrameBuffer.{FrameBuffer}
use Rattle.mongo_proxy.specs.RelayedFrames.{command, reply, stand}
use Rattle.mongo_proxy.specs.Sides.{Sides, Carries}
use Rattle.mongo_proxy.specs.Turn.{CommandEnds, CommandPassed, PassesOne, ReplyPassed, TurnEnds}
use Rattle.mongo_proxy.specs.declared.awaited.Asked.{Asked}
use Rattle.mongo_proxy.specs.declared.awaited.Awaited.{Awaited}
use Rattle.mongo_proxy.specs.declared.awaited.Awaited.TheVariants as awaited
use Rattle.mongo_proxy.specs.declared.passing.Stop.{Stop}

one_command : (maximum : ℤ) (between new : Sides) (id last : ℤ) (after : Awaited) → CommandPassed maximum between new id last after → PassesOne maximum (stand awaited.Command id) (stand after last) between new
one_command maximum between new id last after p = record {
  relayed = command p.command;
  is_next = (p.is_command, p.drawn);
  within = p.within;
  client = subst (λ taken. Carries between.client new.client taken []) (sym (append-nil p.command.frame)) p.client;
  server = subst (Carries between.server new.server []) (sym (append-nil p.command.sent)) p.server;
}

one_reply : (maximum : ℤ) (between new : Sides) (asked : Asked) (id : ℤ) (after : Awaited) → ReplyPassed maximum asked between new after → PassesOne maximum (stand (awaited.Reply asked) id) (stand after id) between new
one_reply maximum between new asked id after p = record {
  relayed = reply p.reply;
  is_next = (p.is_reply, refl);
  within = p.within;
  client = subst (Carries between.client new.client []) (sym (append-nil p.reply.sent)) p.client;
  server = subst (λ taken. Carries between.server new.server taken []) (sym (append-nil p.reply.frame)) p.server;
}

pub turn_of_command : (maximum : ℤ) (between new : Sides) (waits : Awaited) (id last : ℤ) (result : Result (Option Awaited) Stop) → waits ≡ awaited.Command → CommandEnds maximum between new id last result
    → TurnEnds maximum (stand waits id) between new last result
turn_of_command maximum between new waits id last result is ends = subst (λ w. TurnEnds maximum (stand w id) between new last result) (sym is) (by result ends)
  where
    by : (result : Result (Option Awaited) Stop) → CommandEnds maximum between new id last result → TurnEnds maximum (stand awaited.Command id) between new last result
    by (Ok None) e = e
    by (Ok (Some after)) e = one_command maximum between new id last after e
    by (Err stop) e = e

pub turn_of_reply : (maximum : ℤ) (between new : Sides) (waits : Awaited) (asked : Asked) (after : Awaited) (id : ℤ) → waits ≡ awaited.Reply asked → ReplyPassed maximum asked between new after
    → PassesOne maximum (stand waits id) (stand after id) between new
turn_of_reply maximum between new waits asked after id is p = subst (λ w. PassesOne maximum (stand w id) (stand after id) between new) (sym is) (one_reply maximum between new asked id after p)

-- the memory of a buffer that stayed within the maximum twice did so
pub stays_on : (maximum : ℤ) (start mid last : FrameBuffer) → StaysWithin maximum start mid → StaysWithin maximum mid last → StaysWithin maximum start last
stays_on maximum start mid last (inl p) (inl q) = inl (omega (arith, p, q))
stays_on maximum start mid last (inr p) (inl q) = inr (omega (arith, ints, p, q))
stays_on maximum start mid last p (inr q) = inr q

pub stays_still : (maximum : ℤ) (start : FrameBuffer) → StaysWithin maximum start start
stays_still maximum start = inl (omega arith)
