-- What a relay in memory tells.
use Rattle.std.proofs.Common.{◌≡◌, ℕ, ◌≤◌, ◌⊎◌, Bool, true, false, Option, None, Some, Err, List, [], ◌++◌, length, IfSome, inl, inr, refl, ap, subst, arith}
use Rattle.std.specs.Io.KnownBytes.{Consumes}
use Rattle.mongo_wire.specs.Header.{maximum_of}
use Rattle.mongo_proxy.specs.RelayedFrames.{RelayedFrame, Stand, commands, replies, taken_of}
use Rattle.mongo_proxy.specs.Relays.{EndsWhole}
use Rattle.mongo_proxy.specs.Sides.{Sides}
use Rattle.mongo_proxy.specs.declared.awaited.Awaited.TheVariants.{Command}
use Rattle.mongo_proxy.proofs.Scripts.{completes}
use Rattle.mongo_settings.specs.declared.rehearsal.RehearsalStatus.{RehearsalStatus}
use Rattle.mongo_settings.specs.declared.rehearsal.RehearsalStatus.TheVariants.{Accepted, Refused}
use Rattle.mongo_login.specs.declared.proxy.ProxySettings.{ProxySettings}
use Rattle.mongo_login.specs.Proxy.{HoldsScript, RelayComesOut, TellsCut, TellsRelay, TellsWhole, most_of, sides_of}

-- what is left of these bytes
abbrev Rest : Option (List ℕ) → List ℕ → List ℕ → Type 0
Rest now taken bytes = (left : List ℕ) × (now ≡ Some left) × (bytes ≡ taken ++ left)

rest_of : (bytes taken : List ℕ) (now : Option (List ℕ)) → Consumes (Some bytes) now taken → Rest now taken bytes
rest_of bytes taken None c = absurd c
rest_of bytes taken (Some left) c = (left, refl, c)

-- the client's bytes end behind the frames, or as many as are wanted stand there
script_ends : (ended : Bool) (most : ℕ) (between after : Sides) (stand : Stand) (relayed : List RelayedFrame) (rest : List ℕ) → between.client.left ≡ Some rest → EndsWhole ended most between after stand relayed → (most ≤ length relayed) ⊎ ((stand.awaited ≡ Command) × (rest ≡ []))
script_ends false most between after stand relayed rest left e = inl (omega (arith, e.0))
script_ends true most between after stand relayed rest left e = inr (e.1.awaits, subst (λ left. IfSome left (λ bytes. bytes ≡ [])) left e.1.ended.none)

-- frames that were relayed to the end are a script
holds_script : (asked : ProxySettings) (text : List ℕ) → TellsWhole asked text → HoldsScript asked
holds_script asked text w =
    let r = w.relays in
    let client = rest_of asked.commands (taken_of (commands r.relayed)) r.between.client.left r.has_relayed.client.consumed in
    let server = rest_of asked.replies (taken_of (replies r.relayed)) r.between.server.left r.has_relayed.server.consumed in (
      r.relayed,
      record {
        after = r.after;
        follow = r.has_relayed.follow;
        each = r.has_relayed.each;
        client_rest = client.0;
        server_rest = server.0;
        client_is = ap Some client.2;
        server_is = ap Some server.2;
        ends = script_ends w.done.ended (most_of asked) r.between w.after r.after r.relayed client.0 client.1 r.ends;
      },
    )

-- a relay that was refused met none
no_script : (asked : ProxySettings) (text : List ℕ) → TellsCut asked text → HoldsScript asked → ⊥
no_script asked text c s = c.cause (completes (maximum_of None) asked.first_id c.last (most_of asked) (sides_of asked) c.after (Err c.fault) c.relays s.0 s.1 c.unfailed)

pub relay_status : (asked : ProxySettings) (status other : RehearsalStatus) (text : List ℕ) → TellsRelay asked status text → RelayComesOut asked other → status ≡ other
relay_status asked Accepted Accepted text t out = refl
relay_status asked Refused Refused text t out = refl
relay_status asked Accepted Refused text t out = absurd (out (holds_script asked text t))
relay_status asked Refused Accepted text t out = absurd (no_script asked text t out)
