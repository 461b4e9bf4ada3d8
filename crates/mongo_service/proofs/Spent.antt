-- What requests cost, one after another.
use Rattle.std.proofs.Common.{◌≡◌, ◌⊎◌, ℕ, ◌+◌, Option, Some, List, [], ◌∷◌, ◌++◌, inl, inr, refl, sym, subst, arith}
use Rattle.mongo_service.specs.declared.fault.ServeFault.{ServeFault}
use Rattle.mongo_service.specs.declared.fault.ServeFault.TheVariants.{NoHello, OutOfMemory}
use Rattle.mongo_session.specs.declared.serve_settings.ServeSettings.{ServeSettings}
use Rattle.mongo_session.specs.Costs.{AllRounds, DocumentRounds, RequestRounds, CostsAtMost, CostsRounds}
use Rattle.mongo_session.specs.declared.request.Request.{Request}
use Rattle.mongo_session.specs.Requests.{IsHello, SaysRequest}
use Rattle.mongo_service.specs.Spent.{SpendsAfter, SpendsRounds}
use Rattle.mongo_service.specs.Taken.{CarriesRequest, IsQuery}

-- ---- one request

-- nothing was answered, and nothing derived
pub none_spent : (settings : ServeSettings) (fault : Option ServeFault) (more : List ℕ) (steps : ℕ) → SpendsRounds settings [] fault more steps steps
none_spent settings fault more steps = record { rounds = 0; derived = refl; after = inl (omega arith) }

-- memory ran out for the answer
pub memory_spent : (settings : ServeSettings) (more document : List ℕ) (first last : ℕ) → CarriesRequest more document → CostsAtMost (DocumentRounds settings document) first last → SpendsRounds settings [] (Some OutOfMemory) more first last
memory_spent settings more document first last carries most = record {
  rounds = 0;
  derived = refl;
  after = inr (refl, (document, carries, subst (λ n. CostsAtMost (DocumentRounds settings document) n last) (omega arith) most));
}

-- an OP_QUERY that isn't answered
pub unasked_spent : (settings : ServeSettings) (fault : ServeFault) (bytes command : List ℕ) (first last : ℕ) → IsQuery bytes command → (fault ≡ OutOfMemory) ⊎ ((fault ≡ NoHello) × (IsHello command → ⊥)) → (fault ≡ NoHello → last ≡ first)
    → CostsAtMost (DocumentRounds settings command) first last → SpendsRounds settings [] (Some fault) bytes first last
unasked_spent settings fault bytes command first last is_query (inl memory) none most =
    subst (λ f. SpendsRounds settings [] (Some f) bytes first last) (sym memory) (memory_spent settings bytes command first last (inr is_query) most)
unasked_spent settings fault bytes command first last is_query (inr (other, unasked)) none most = subst (λ n. SpendsRounds settings [] (Some fault) bytes first n) (sym (none other)) (none_spent settings (Some fault) bytes first)

-- one request was answered
pub one_spent : (settings : ServeSettings) (document : List ℕ) (fault : Option ServeFault) (more : List ℕ) (first last : ℕ) → CostsRounds (DocumentRounds settings document) first last → SpendsRounds settings (document ∷ []) fault more first last
one_spent settings document fault more first last (rounds, derived, steps) = record { rounds = rounds; derived = (rounds, 0, omega arith, derived, refl); after = inl steps }

-- what a request costs at most, its document does
pub request_at_most : (settings : ServeSettings) (document : List ℕ) (request : Request) → SaysRequest document request → (old new : ℕ) → CostsAtMost (RequestRounds settings request) old new → CostsAtMost (DocumentRounds settings document) old new
request_at_most settings document request says old new (rises, inl none) = (rises, inl none)
request_at_most settings document request says old new (rises, inr (rounds, derived, most)) = (rises, inr (rounds, record { request = request; says = says; derived = derived }, most))

-- ---- requests after requests

rounds_joined : (settings : ServeSettings) (xs ys : List (List ℕ)) (a b : ℕ) → AllRounds settings xs a → AllRounds settings ys b → AllRounds settings (xs ++ ys) (a + b)
rounds_joined settings [] ys a b none others = subst (λ n. AllRounds settings ys n) (omega (arith, none)) others
rounds_joined settings (x ∷ xs) ys a b (here, more, sum, one, rest) others = (here, more + b, omega (arith, sum), one, rounds_joined settings xs ys more b rest others)

-- one request more
pub rounds_then : (settings : ServeSettings) (requests : List (List ℕ)) (document : List ℕ) (first mid last : ℕ) → CostsRounds (AllRounds settings requests) first mid → CostsRounds (DocumentRounds settings document) mid last
    → CostsRounds (AllRounds settings (requests ++ document ∷ [])) first last
rounds_then settings requests document first mid last (before, derived, steps) (here, one, more) =
    (before + here, rounds_joined settings requests (document ∷ []) before here derived (here, 0, omega arith, one, refl), omega (arith, steps, more))

-- all were answered
pub all_spent : (settings : ServeSettings) (requests : List (List ℕ)) (fault : Option ServeFault) (more : List ℕ) (first last : ℕ) → CostsRounds (AllRounds settings requests) first last → SpendsRounds settings requests fault more first last
all_spent settings requests fault more first last (rounds, derived, steps) = record { rounds = rounds; derived = derived; after = inl steps }

-- what the last request cost, after those before it
pub rounds_after : (settings : ServeSettings) (requests others : List (List ℕ)) (fault : Option ServeFault) (more : List ℕ) (first mid last : ℕ) → CostsRounds (AllRounds settings requests) first mid → SpendsRounds settings others fault more mid last
    → SpendsRounds settings (requests ++ others) fault more first last
rounds_after settings requests others fault more first mid last (before, derived, steps) s = record {
  rounds = before + s.rounds;
  derived = rounds_joined settings requests others before s.rounds derived s.derived;
  after = subst (λ n. SpendsAfter settings fault more n last) (omega (arith, steps)) s.after;
}
