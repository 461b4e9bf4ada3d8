-- The ids that commands are sent with: fewer than all are no two the same.
use Rattle.std.proofs.Common.{◌≡◌, ℕ, ℤ, ◌+◌, ◌^◌, ◌%◌, ◌<◌, ◌≤◌, List, [], ◌∷◌, length, refl, sym, ap, ◌∙◌, subst, arith}
use Rattle.std.proofs.lemmas.Int.{of_z-to_z}
use Rattle.std.specs.Int.{cast_unsigned, w32}
use Rattle.std.specs.List.{AllByRecursion}
use Rattle.mongo_wire.specs.Bytes.{next_id}
use Rattle.mongo_proxy.specs.RelayedFrames.{RelayedFrame, Passed, command, reply, commands, Stand, stand, Follow, ids_of, AllDiffer}
use Rattle.mongo_proxy.specs.declared.awaited.Awaited.{Awaited}
use Rattle.mongo_proxy.specs.declared.awaited.Awaited.TheVariants as awaited

-- an id and those after it, one for each frame
abbrev numbered : ℤ → List Passed → List ℤ
numbered id [] = []
numbered id (c ∷ cs) = id ∷ numbered (next_id id) cs

bits_next : (id : ℤ) → cast_unsigned w32 (next_id id) ≡ (cast_unsigned w32 id + 1) % 2 ^ 32
bits_next id = of_z-to_z w32 ((cast_unsigned w32 id + 1) % 2 ^ 32) (omega arith)

-- an id isn't among those that come so many places behind it and later, before it comes again
not_later : (x id : ℤ) (k : ℕ) (cs : List Passed) → cast_unsigned w32 id ≡ (cast_unsigned w32 x + k) % 2 ^ 32 → 0 < k → k + length cs ≤ 2 ^ 32 → AllByRecursion (λ y. x ≡ y → ⊥) (numbered id cs)
not_later x id k [] is some few = tt
not_later x id k (c ∷ cs) is some few = (
  λ same. omega (arith, is, some, few, ap (cast_unsigned w32) same),
  not_later x (next_id id) (k + 1) cs (omega (arith, bits_next id, is)) (omega arith) (omega (arith, few)),
)

numbered_differ : (id : ℤ) (cs : List Passed) → length cs ≤ 2 ^ 32 → AllDiffer (numbered id cs)
numbered_differ id [] few = tt
numbered_differ id (c ∷ cs) few =
    (not_later id (next_id id) 1 cs (bits_next id) (omega arith) (omega (arith, few)), numbered_differ (next_id id) cs (omega (arith, few)))

-- commands that follow each other are numbered
ids_are : (waits : Awaited) (id : ℤ) (relayed : List RelayedFrame) (after : Stand) → Follow (stand waits id) relayed after → ids_of (commands relayed) ≡ numbered id (commands relayed)
ids_are waits id [] after f = refl
ids_are awaited.Command id (command c ∷ more) after f =
    ap (λ i. i ∷ ids_of (commands more)) f.1.0.id_is ∙ ap (λ l. id ∷ l) (ids_are f.0.awaited f.0.id more after f.2) ∙ ap (λ i. id ∷ numbered i (commands more)) f.1.1
ids_are awaited.Command id (reply r ∷ more) after f = absurd f.1
ids_are (awaited.Reply asked) id (command c ∷ more) after f = absurd f.1
ids_are (awaited.Reply asked) id (reply r ∷ more) after f = ids_are f.0.awaited f.0.id more after f.2 ∙ ap (λ i. numbered i (commands more)) f.1.1

pub ids_apart : (before after : Stand) (relayed : List RelayedFrame) → Follow before relayed after → length (commands relayed) < 2 ^ 32 → AllDiffer (ids_of (commands relayed))
ids_apart before after relayed f few =
    subst AllDiffer (sym (ids_are before.awaited before.id relayed after f)) (numbered_differ before.id (commands relayed) (omega (arith, few)))
