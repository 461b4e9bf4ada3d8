-- Frames that were passed on are the first of any that stand in the same bytes.
use Rattle.std.proofs.Common.{◌≡◌, ℕ, ℤ, ◌≤◌, ◌⊎◌, List, [], ◌∷◌, ◌++◌, length, inl, inr, refl, sym, ap, ◌∙◌, subst, append_assoc, arith, length-append}
use Rattle.mongo_wire.proofs.OneFrame.{one_frame, least_frame}
use Rattle.mongo_proxy.specs.RelayedFrames.{RelayedFrame, Passed, command, reply, commands, replies, Stand, stand, Follow, IsCommand, taken_of}
use Rattle.mongo_proxy.specs.declared.awaited.Asked.{Asked}
use Rattle.mongo_proxy.specs.declared.awaited.Awaited.{Awaited}
use Rattle.mongo_proxy.specs.declared.awaited.Awaited.TheVariants as awaited
use Rattle.mongo_proxy.proofs.OneFrameOn.{one_command, one_reply, same_stand}

-- the second frames are the first ones and some more, which stand in what is left of the client's bytes and of the server's
pub record Continues (first second : List RelayedFrame) (now last : Stand) (left rest : List ℕ) (other_left other_rest : List ℕ) : Type 0 where
  pub more : List RelayedFrame
  pub joined : second ≡ first ++ more
  pub follow : Follow now more last
  pub client : left ≡ taken_of (commands more) ++ rest
  pub server : other_left ≡ taken_of (replies more) ++ other_rest

-- the first aren't more than the second, after which there is no command
abbrev pub EndsBefore : List RelayedFrame → List RelayedFrame → Stand → List ℕ → Type 0
EndsBefore first second last rest = (length first ≤ length second) ⊎ ((last.awaited ≡ awaited.Command) × (rest ≡ []))

fewer : (f s : RelayedFrame) (first second : List RelayedFrame) (last : Stand) (rest : List ℕ) → EndsBefore (f ∷ first) (s ∷ second) last rest → EndsBefore first second last rest
fewer f s first second last rest (inl few) = inl (omega (arith, few))
fewer f s first second last rest (inr e) = inr e

no_frame_left : (id : ℤ) (c : Passed) (after : Awaited) (more left rest : List ℕ) → IsCommand id c after → (c.frame ++ more) ++ left ≡ rest → rest ≡ [] → ⊥
no_frame_left id c after more left rest is e none = omega (arith, least_frame c.frame is.parts is.is_frame, ap length e, ap length none, length-append (c.frame ++ more) left, length-append c.frame more)

is_reply : (asked : Asked) → awaited.Reply asked ≡ awaited.Command → ⊥
is_reply asked e = cc

joined_on : (f s : RelayedFrame) (first second more : List RelayedFrame) → f ≡ s → second ≡ first ++ more → s ∷ second ≡ (f ∷ first) ++ more
joined_on f s first second more p q = ap (λ z. z ∷ second) (sym p) ∙ ap (λ l. f ∷ l) q

pub continues : (waits : Awaited) (id : ℤ) (first second : List RelayedFrame) (now last : Stand) (left rest other_left other_rest : List ℕ) → Follow (stand waits id) first now → Follow (stand waits id) second last
    → taken_of (commands first) ++ left ≡ taken_of (commands second) ++ rest → taken_of (replies first) ++ other_left ≡ taken_of (replies second) ++ other_rest → EndsBefore first second last rest
    → Continues first second now last left rest other_left other_rest
continues waits id [] second now last left rest other_left other_rest f g p q e = record { more = second; joined = refl; follow = subst (λ s. Follow s second last) (sym f) g; client = p; server = q }
continues waits id (h ∷ first) [] now last left rest other_left other_rest f g p q (inl few) = absurd (omega (arith, few))
continues awaited.Command id (command c ∷ first) [] now last left rest other_left other_rest f g p q (inr e) = absurd (no_frame_left id c f.0.awaited (taken_of (commands first)) left rest f.1.0 p e.1)
continues awaited.Command id (reply r ∷ first) [] now last left rest other_left other_rest f g p q (inr e) = absurd f.1
continues (awaited.Reply asked) id (h ∷ first) [] now last left rest other_left other_rest f g p q (inr e) = absurd (is_reply asked (sym (ap (λ s. s.awaited) g) ∙ e.0))
continues awaited.Command id (command c ∷ first) (command d ∷ second) now last left rest other_left other_rest f g p q e =
    let had = taken_of (commands first) in
    let has = taken_of (commands second) in
    let is = f.1.0 in
    let also = g.1.0 in
    let frames = one_frame c.frame d.frame (had ++ left) (has ++ rest) is.parts also.parts is.is_frame also.is_frame (sym (append_assoc c.frame had left) ∙ p ∙ append_assoc d.frame has rest) in
    let one = one_command id c d f.0.awaited g.0.awaited is also frames.0 in
    let stands = same_stand g.0 f.0 (sym one.1) (g.1.1 ∙ sym f.1.1) in
    let later = continues f.0.awaited f.0.id first second now last left rest other_left other_rest f.2 (subst (λ s. Follow s second last) stands g.2) frames.2 q (fewer (command c) (command d) first second last rest e) in
    record { more = later.more; joined = joined_on (command c) (command d) first second later.more (ap command one.0) later.joined; follow = later.follow; client = later.client; server = later.server }
continues awaited.Command id (command c ∷ first) (reply d ∷ second) now last left rest other_left other_rest f g p q e = absurd g.1
continues awaited.Command id (reply r ∷ first) (s ∷ second) now last left rest other_left other_rest f g p q e = absurd f.1
continues (awaited.Reply asked) id (command c ∷ first) (s ∷ second) now last left rest other_left other_rest f g p q e = absurd f.1
continues (awaited.Reply asked) id (reply c ∷ first) (command d ∷ second) now last left rest other_left other_rest f g p q e = absurd g.1
continues (awaited.Reply asked) id (reply c ∷ first) (reply d ∷ second) now last left rest other_left other_rest f g p q e =
    let had = taken_of (replies first) in
    let has = taken_of (replies second) in
    let is = f.1.0 in
    let also = g.1.0 in
    let frames = one_frame c.frame d.frame (had ++ other_left) (has ++ other_rest) is.parts also.parts is.is_frame also.is_frame (sym (append_assoc c.frame had other_left) ∙ q ∙ append_assoc d.frame has other_rest) in
    let one = one_reply asked c d f.0.awaited g.0.awaited is also frames.0 in
    let stands = same_stand g.0 f.0 (sym one.1) (g.1.1 ∙ sym f.1.1) in
    let later = continues f.0.awaited f.0.id first second now last left rest other_left other_rest f.2 (subst (λ s. Follow s second last) stands g.2) p frames.2 (fewer (reply c) (reply d) first second last rest e) in
    record { more = later.more; joined = joined_on (reply c) (reply d) first second later.more (ap reply one.0) later.joined; follow = later.follow; client = later.client; server = later.server }
