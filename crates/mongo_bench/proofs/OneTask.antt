-- The words ask for one task at most.
use Rattle.std.proofs.Common.{◌≡◌, ◌<◌, ◌^◌, ℕ, List, [], ◌∷◌, refl, ap, sym, ◌∙◌, arith}
use Rattle.std.specs.Fmt.{decimal}
use Rattle.std.proofs.lemmas.Fmt.{decimal_injective}
use Rattle.mongo_bench.specs.declared.task.Hash.{Hash}
use Rattle.mongo_bench.specs.declared.task.Hash.TheVariants.{Sha1, Sha256}
use Rattle.mongo_bench.specs.declared.task.Pass.{Pass}
use Rattle.mongo_bench.specs.declared.task.Pass.TheVariants.{Iterate, Readable}
use Rattle.mongo_bench.specs.declared.task.DocumentShape.{DocumentShape}
use Rattle.mongo_bench.specs.declared.task.DocumentShape.TheVariants.{Nested, Flat, TooDeep}
use Rattle.mongo_bench.specs.declared.task.Direction.{Direction}
use Rattle.mongo_bench.specs.declared.task.Direction.TheVariants.{Write, Read, ReadOwned}
use Rattle.mongo_bench.specs.declared.task.FrameSize.{FrameSize}
use Rattle.mongo_bench.specs.declared.task.FrameSize.TheVariants.{Small, Middle, Large}
use Rattle.mongo_bench.specs.declared.task.BenchTask.{BenchTask}
use Rattle.mongo_bench.specs.declared.task.BenchTask.TheVariants.{Derive, Walk, Document, Frames, Insert, Login}
use Rattle.mongo_bench.specs.Task.{AsksTask, document_word, frames_word, insert_word, login_word, name_of_hash, name_of_login, name_of_pass, name_of_shape, name_of_direction, name_of_size}

one_hash : (h k : Hash) → name_of_hash h ≡ name_of_hash k → h ≡ k
one_hash Sha1 Sha1 same = refl
one_hash Sha1 Sha256 same = cc
one_hash Sha256 Sha1 same = cc
one_hash Sha256 Sha256 same = refl

one_pass : (p q : Pass) → name_of_pass p ≡ name_of_pass q → p ≡ q
one_pass Iterate Iterate same = refl
one_pass Iterate Readable same = cc
one_pass Readable Iterate same = cc
one_pass Readable Readable same = refl

one_shape : (s t : DocumentShape) → name_of_shape s ≡ name_of_shape t → s ≡ t
one_shape Nested Nested same = refl
one_shape Nested Flat same = cc
one_shape Nested TooDeep same = cc
one_shape Flat Nested same = cc
one_shape Flat Flat same = refl
one_shape Flat TooDeep same = cc
one_shape TooDeep Nested same = cc
one_shape TooDeep Flat same = cc
one_shape TooDeep TooDeep same = refl

one_direction : (d e : Direction) → name_of_direction d ≡ name_of_direction e → d ≡ e
one_direction Write Write same = refl
one_direction Write Read same = cc
one_direction Write ReadOwned same = cc
one_direction Read Write same = cc
one_direction Read Read same = refl
one_direction Read ReadOwned same = cc
one_direction ReadOwned Write same = cc
one_direction ReadOwned Read same = cc
one_direction ReadOwned ReadOwned same = refl

one_size : (s t : FrameSize) → name_of_size s ≡ name_of_size t → s ≡ t
one_size Small Small same = refl
one_size Small Middle same = cc
one_size Small Large same = cc
one_size Middle Small same = cc
one_size Middle Middle same = refl
one_size Middle Large same = cc
one_size Large Small same = cc
one_size Large Middle same = cc
one_size Large Large same = refl

one_login : (h k : Hash) → name_of_login h ≡ name_of_login k → h ≡ k
one_login Sha1 Sha1 same = refl
one_login Sha1 Sha256 same = cc
one_login Sha256 Sha1 same = cc
one_login Sha256 Sha256 same = refl

-- no pass is called as the task that logs in
pub no_pass_logs_in : (p : Pass) → name_of_pass p ≡ login_word → ⊥
no_pass_logs_in Iterate same = cc
no_pass_logs_in Readable same = cc

-- no hash is called as the task that prints a document
pub no_hash : (h : Hash) → name_of_hash h ≡ document_word → ⊥
no_hash Sha1 same = cc
no_hash Sha256 same = cc

-- nor as the one that builds inserts
pub no_hash_inserts : (h : Hash) → name_of_hash h ≡ insert_word → ⊥
no_hash_inserts Sha1 same = cc
no_hash_inserts Sha256 same = cc

pub two_same : (a b c d : List ℕ) → a ∷ b ∷ [] ≡ c ∷ d ∷ [] → (a ≡ c) × (b ≡ d)
two_same a b c d same = ((cc), (cc))

pub three_same : (a b c d e f : List ℕ) → a ∷ b ∷ c ∷ [] ≡ d ∷ e ∷ f ∷ [] → (a ≡ d) × (b ≡ e) × (c ≡ f)
three_same a b c d e f same = ((cc), (cc), (cc))

pub not_two : {P : Type 0} (a b c d e : List ℕ) → a ∷ b ∷ [] ≡ c ∷ d ∷ e ∷ [] → P
not_two a b c d e same = cc

-- the two tasks of two words that are no derivation
inserts_nothing : {P : Type 0} (a b : List ℕ) → insert_word ∷ a ∷ [] ≡ document_word ∷ b ∷ [] → P
inserts_nothing a b same = cc

four_same : (a b c d e f g h : List ℕ) → a ∷ b ∷ c ∷ d ∷ [] ≡ e ∷ f ∷ g ∷ h ∷ [] → (b ≡ f) × (c ≡ g) × (d ≡ h)
four_same a b c d e f g h same = ((cc), (cc), (cc))

pub two_not_four : {P : Type 0} (a b c d e f : List ℕ) → a ∷ b ∷ [] ≡ c ∷ d ∷ e ∷ f ∷ [] → P
two_not_four a b c d e f same = cc

pub three_not_four : {P : Type 0} (a b c d e f g : List ℕ) → a ∷ b ∷ c ∷ [] ≡ d ∷ e ∷ f ∷ g ∷ [] → P
three_not_four a b c d e f g same = cc

same_count : (m n : ℕ) → m < 2 ^ 32 → n < 2 ^ 32 → decimal m ≡ decimal n → m ≡ n
same_count m n m_fits n_fits same = decimal_injective m n (omega arith) (omega arith) same

pub one_task : (words : List (List ℕ)) (t u : BenchTask) → AsksTask words t → AsksTask words u → t ≡ u
one_task words (Derive h m) (Derive k n) t u =
    let both = two_same (name_of_hash h) (decimal m) (name_of_hash k) (decimal n) (sym t.0 ∙ u.0) in
    ap (λ x. Derive x m) (one_hash h k both.0) ∙ ap (Derive k) (same_count m n t.2 u.2 both.1)
one_task words (Derive h m) (Walk p s n) t u = not_two (name_of_hash h) (decimal m) (name_of_pass p) (name_of_shape s) (decimal n) (sym t.0 ∙ u.0)
one_task words (Derive h m) (Document s) t u =
    absurd (no_hash h (two_same (name_of_hash h) (decimal m) document_word (name_of_shape s) (sym t.0 ∙ u.0)).0)
one_task words (Walk p s n) (Derive h m) t u = not_two (name_of_hash h) (decimal m) (name_of_pass p) (name_of_shape s) (decimal n) (sym u.0 ∙ t.0)
one_task words (Walk p s m) (Walk q r n) t u =
    let all = three_same (name_of_pass p) (name_of_shape s) (decimal m) (name_of_pass q) (name_of_shape r) (decimal n) (sym t.0 ∙ u.0) in
    ap (λ x. Walk x s m) (one_pass p q all.0) ∙ ap (λ x. Walk q x m) (one_shape s r all.1) ∙ ap (Walk q r) (same_count m n t.2 u.2 all.2)
one_task words (Walk p s n) (Document r) t u = not_two document_word (name_of_shape r) (name_of_pass p) (name_of_shape s) (decimal n) (sym u.0 ∙ t.0)
one_task words (Document s) (Derive h m) t u =
    absurd (no_hash h (two_same (name_of_hash h) (decimal m) document_word (name_of_shape s) (sym u.0 ∙ t.0)).0)
one_task words (Document r) (Walk p s n) t u = not_two document_word (name_of_shape r) (name_of_pass p) (name_of_shape s) (decimal n) (sym t.0 ∙ u.0)
one_task words (Document s) (Document r) t u =
    ap Document (one_shape s r (two_same document_word (name_of_shape s) document_word (name_of_shape r) (sym t.0 ∙ u.0)).1)
one_task words (Frames d s n) (Frames e r m) t u =
    let all = four_same frames_word (name_of_direction d) (name_of_size s) (decimal n) frames_word (name_of_direction e) (name_of_size r) (decimal m) (sym t.0 ∙ u.0) in
    ap (λ x. Frames x s n) (one_direction d e all.0) ∙ ap (λ x. Frames e x n) (one_size s r all.1) ∙ ap (Frames e r) (same_count n m t.2 u.2 all.2)
one_task words (Frames d s n) (Derive h m) t u = two_not_four (name_of_hash h) (decimal m) frames_word (name_of_direction d) (name_of_size s) (decimal n) (sym u.0 ∙ t.0)
one_task words (Frames d s n) (Document r) t u = two_not_four document_word (name_of_shape r) frames_word (name_of_direction d) (name_of_size s) (decimal n) (sym u.0 ∙ t.0)
one_task words (Frames d s n) (Walk p r m) t u = three_not_four (name_of_pass p) (name_of_shape r) (decimal m) frames_word (name_of_direction d) (name_of_size s) (decimal n) (sym u.0 ∙ t.0)
one_task words (Derive h m) (Frames d s n) t u = two_not_four (name_of_hash h) (decimal m) frames_word (name_of_direction d) (name_of_size s) (decimal n) (sym t.0 ∙ u.0)
one_task words (Document r) (Frames d s n) t u = two_not_four document_word (name_of_shape r) frames_word (name_of_direction d) (name_of_size s) (decimal n) (sym t.0 ∙ u.0)
one_task words (Walk p r m) (Frames d s n) t u = three_not_four (name_of_pass p) (name_of_shape r) (decimal m) frames_word (name_of_direction d) (name_of_size s) (decimal n) (sym t.0 ∙ u.0)
one_task words (Insert n) (Insert m) t u = ap Insert (same_count n m t.2 u.2 (two_same insert_word (decimal n) insert_word (decimal m) (sym t.0 ∙ u.0)).1)
one_task words (Insert n) (Derive h m) t u = absurd (no_hash_inserts h (two_same (name_of_hash h) (decimal m) insert_word (decimal n) (sym u.0 ∙ t.0)).0)
one_task words (Derive h m) (Insert n) t u = absurd (no_hash_inserts h (two_same (name_of_hash h) (decimal m) insert_word (decimal n) (sym t.0 ∙ u.0)).0)
one_task words (Insert n) (Document s) t u = inserts_nothing (decimal n) (name_of_shape s) (sym t.0 ∙ u.0)
one_task words (Document s) (Insert n) t u = inserts_nothing (decimal n) (name_of_shape s) (sym u.0 ∙ t.0)
one_task words (Insert n) (Walk p s m) t u = not_two insert_word (decimal n) (name_of_pass p) (name_of_shape s) (decimal m) (sym t.0 ∙ u.0)
one_task words (Walk p s m) (Insert n) t u = not_two insert_word (decimal n) (name_of_pass p) (name_of_shape s) (decimal m) (sym u.0 ∙ t.0)
one_task words (Insert n) (Frames d s m) t u = two_not_four insert_word (decimal n) frames_word (name_of_direction d) (name_of_size s) (decimal m) (sym t.0 ∙ u.0)
one_task words (Frames d s m) (Insert n) t u = two_not_four insert_word (decimal n) frames_word (name_of_direction d) (name_of_size s) (decimal m) (sym u.0 ∙ t.0)
one_task words (Login h m) (Login k n) t u =
    let all = three_same login_word (name_of_login h) (decimal m) login_word (name_of_login k) (decimal n) (sym t.0 ∙ u.0) in
    ap (λ x. Login x m) (one_login h k all.1) ∙ ap (Login k) (same_count m n t.2 u.2 all.2)
one_task words (Login h m) (Walk p s n) t u =
    absurd (no_pass_logs_in p (three_same (name_of_pass p) (name_of_shape s) (decimal n) login_word (name_of_login h) (decimal m) (sym u.0 ∙ t.0)).0)
one_task words (Walk p s n) (Login h m) t u =
    absurd (no_pass_logs_in p (three_same (name_of_pass p) (name_of_shape s) (decimal n) login_word (name_of_login h) (decimal m) (sym t.0 ∙ u.0)).0)
one_task words (Login h m) (Derive k n) t u = not_two (name_of_hash k) (decimal n) login_word (name_of_login h) (decimal m) (sym u.0 ∙ t.0)
one_task words (Derive k n) (Login h m) t u = not_two (name_of_hash k) (decimal n) login_word (name_of_login h) (decimal m) (sym t.0 ∙ u.0)
one_task words (Login h m) (Document s) t u = not_two document_word (name_of_shape s) login_word (name_of_login h) (decimal m) (sym u.0 ∙ t.0)
one_task words (Document s) (Login h m) t u = not_two document_word (name_of_shape s) login_word (name_of_login h) (decimal m) (sym t.0 ∙ u.0)
one_task words (Login h m) (Insert n) t u = not_two insert_word (decimal n) login_word (name_of_login h) (decimal m) (sym u.0 ∙ t.0)
one_task words (Insert n) (Login h m) t u = not_two insert_word (decimal n) login_word (name_of_login h) (decimal m) (sym t.0 ∙ u.0)
one_task words (Login h m) (Frames d s n) t u = three_not_four login_word (name_of_login h) (decimal m) frames_word (name_of_direction d) (name_of_size s) (decimal n) (sym t.0 ∙ u.0)
one_task words (Frames d s n) (Login h m) t u = three_not_four login_word (name_of_login h) (decimal m) frames_word (name_of_direction d) (name_of_size s) (decimal n) (sym u.0 ∙ t.0)
