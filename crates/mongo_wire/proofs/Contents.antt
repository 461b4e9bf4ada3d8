-- What the readers of a frame's content find.
use Rattle.std.proofs.Common.{◌≡◌, ℕ, ◌+◌, ◌-◌, ◌<◌, ◌≤◌, Option, None, Some, true, false, is_some, List, [], ◌∷◌, ◌++◌, length, take, drop, refl, sym, ap, ◌∙◌, subst, arith, append-nil}
use Rattle.std.specs.List.{AllByRecursion, flat_map}
use Rattle.std.proofs.lemmas.List.{take_at, drop_at, length-append, append_assoc, length-drop, drop-drop, length-take-le, take-append-drop}
use Rattle.std.proofs.lemmas.Bool.{false≢true}
use Rattle.std.proofs.lemmas.Nat.{from_le_bytes-to_le_bytes_4}
use Rattle.mongo_bson.proofs.Sizes.{number_at_front}
use Rattle.mongo_bson.specs.declared.raw_document.RawDocument.{RawDocument}
use Rattle.mongo_wire.specs.Copies.{copies_with, CopiesSequences}
use Rattle.mongo_wire.specs.Frame.{Section, body, sequence, IsSection, IsSequence, IsChecksum, section_bytes, bodies, sequences_of, uint32}
use Rattle.mongo_wire.specs.Header.{number_at}
use Rattle.mongo_wire.specs.Sections.{AreDocuments, BeginsWithSection, HasNoSection, Shows, ShowsSequence, SplitsSequenceSection}
use Rattle.mongo_wire.specs.declared.document_sequence.DocumentSequence.{DocumentSequence}
use Rattle.mongo_wire.specs.declared.sections.SectionRef.{SectionRef}
use Rattle.mongo_wire.specs.declared.sections.SectionRef.TheVariants.{Body, Sequence}
use Rattle.mongo_wire.specs.declared.sections.SequenceRef.{SequenceRef}
use Rattle.mongo_wire.specs.Content.{IsAt, Finds, LiesAt, HasNoSections, IsContentOf, HasNoContent}
use Rattle.mongo_wire.specs.declared.held_frame.Offsets.{Offsets}
use Rattle.mongo_wire.proofs.Fields.{IsBytes, field, number_fits}
use Rattle.mongo_wire.proofs.OneFrame.{one_section, least_section, one_sections, short_tail}

-- ---- copies of sequences

copies_none : (copies : Option (List DocumentSequence)) → copies ≡ copies_with copies []
copies_none None = refl
copies_none (Some copies) = ap Some (sym (append-nil copies))

copies_more : (copies : Option (List DocumentSequence)) (ss ts : List DocumentSequence) → copies_with (copies_with copies ss) ts ≡ copies_with copies (ss ++ ts)
copies_more None ss ts = refl
copies_more (Some copies) ss ts = ap Some (append_assoc copies ss ts)

sequences_joined : (ss ts : List Section) → sequences_of (ss ++ ts) ≡ sequences_of ss ++ sequences_of ts
sequences_joined [] ts = refl
sequences_joined (body d ∷ ss) ts = sequences_joined ss ts
sequences_joined (sequence s ∷ ss) ts = ap (λ l. s ∷ l) (sequences_joined ss ts)

-- one section more, whose sequence was copied if it has one
copied_more : (ss : List Section) (s : Section) (before old new : Option (List DocumentSequence)) → old ≡ copies_with before (sequences_of ss) → new ≡ copies_with old (sequences_of (s ∷ [])) → new ≡ copies_with before (sequences_of (ss ++ s ∷ []))
copied_more ss s before old new had more =
    more ∙ ap (λ c. copies_with c (sequences_of (s ∷ []))) had ∙ copies_more before (sequences_of ss) (sequences_of (s ∷ [])) ∙ ap (copies_with before) (sym (sequences_joined ss (s ∷ [])))

-- ---- sections

-- sections that were taken after the flags, the place of the body among them, and what their sequences' copies were and are
pub record Took (bytes rest : List ℕ) (place : Option Offsets) (before now : Option (List DocumentSequence)) : Type 0 where
  pub sections : List Section
  pub each : AllByRecursion IsSection sections
  pub long : 4 ≤ length bytes
  pub spelled : drop 4 bytes ≡ flat_map section_bytes sections ++ rest
  pub found : Finds bytes (bodies sections) place
  pub copied : now ≡ copies_with before (sequences_of sections)

pub took_none : (bytes rest : List ℕ) (copies : Option (List DocumentSequence)) → 4 ≤ length bytes → rest ≡ drop 4 bytes → Took bytes rest None copies copies
took_none bytes rest copies long cut = record { sections = []; each = tt; long = long; spelled = sym cut; found = refl; copied = copies_none copies }

-- lists of sections joined
flat_joined : (ss ts : List Section) → flat_map section_bytes (ss ++ ts) ≡ flat_map section_bytes ss ++ flat_map section_bytes ts
flat_joined [] ts = refl
flat_joined (s ∷ ss) ts = ap (λ l. section_bytes s ++ l) (flat_joined ss ts) ∙ sym (append_assoc (section_bytes s) (flat_map section_bytes ss) (flat_map section_bytes ts))

pub each_joined : (ss ts : List Section) → AllByRecursion IsSection ss → AllByRecursion IsSection ts → AllByRecursion IsSection (ss ++ ts)
each_joined [] ts p q = q
each_joined (s ∷ ss) ts p q = (p.0, each_joined ss ts p.1 q)

bodies_joined : (ss ts : List Section) → bodies (ss ++ ts) ≡ bodies ss ++ bodies ts
bodies_joined [] ts = refl
bodies_joined (body d ∷ ss) ts = ap (λ l. d ∷ l) (bodies_joined ss ts)
bodies_joined (sequence s ∷ ss) ts = bodies_joined ss ts

-- one more section was taken
pub one_section_more : (bytes rest after : List ℕ) (ss : List Section) (s : Section) → bytes ≡ flat_map section_bytes ss ++ rest → rest ≡ section_bytes s ++ after → bytes ≡ flat_map section_bytes (ss ++ s ∷ []) ++ after
one_section_more bytes rest after ss s p q =
    let alone : flat_map section_bytes (s ∷ []) ≡ section_bytes s = append-nil (section_bytes s) in
    p ∙ ap (λ l. flat_map section_bytes ss ++ l) q ∙ sym (append_assoc (flat_map section_bytes ss) (section_bytes s) after)
    ∙ ap (λ l. (flat_map section_bytes ss ++ l) ++ after) (sym alone) ∙ ap (λ l. l ++ after) (sym (flat_joined ss (s ∷ [])))

-- every reading of the bytes begins with the sections that were taken
pub goes_on : (ss ts : List Section) (rest tail : List ℕ) → AllByRecursion IsSection ss → AllByRecursion IsSection ts → length tail ≤ 4
    → flat_map section_bytes ss ++ rest ≡ flat_map section_bytes ts ++ tail → (us : List Section) × (ts ≡ ss ++ us) × AllByRecursion IsSection us × (rest ≡ flat_map section_bytes us ++ tail)
goes_on [] ts rest tail p q short e = (ts, refl, q, e)
goes_on (s ∷ ss) [] rest tail p q short e =
    absurd (omega (arith, ap length e, length-append (section_bytes s ++ flat_map section_bytes ss) rest, length-append (section_bytes s) (flat_map section_bytes ss), least_section s p.0))
goes_on (s ∷ ss) (t ∷ ts) rest tail p q short e =
    let one = one_section s t (flat_map section_bytes ss ++ rest) (flat_map section_bytes ts ++ tail) p.0 q.0
    (sym (append_assoc (section_bytes s) (flat_map section_bytes ss) rest) ∙ e ∙ append_assoc (section_bytes t) (flat_map section_bytes ts) tail) in
    let (us, is, each, left) = goes_on ss ts rest tail p.1 q.1 short one.1 in
    (us, ap (λ z. z ∷ ts) (sym one.0) ∙ ap (λ z. s ∷ z) is, each, left)

-- a part that stands between others
pub part_at : (bytes front part after : List ℕ) (from to : ℕ) → bytes ≡ front ++ (part ++ after) → length front ≡ from → length front + length part ≡ to → IsAt bytes part from to
part_at bytes front part after from to e p q = record {
  ordered = omega arith;
  within = omega (arith, ap length e, length-append front (part ++ after), length-append part after);
  is = ap (λ b. take (to - from) (drop from b)) e ∙ ap (take (to - from)) (drop_at front (part ++ after) from p) ∙ take_at part after (to - from) (omega arith);
}

shown_sequence : (s : Section) (read : SequenceRef) → Shows s (Sequence read) → bodies (s ∷ []) ≡ []
shown_sequence (body d) read p = absurd p
shown_sequence (sequence s) read p = refl

shown_body : (s : Section) (read : RawDocument) → Shows s (Body read) → s ≡ body read.bytes.now
shown_body (body d) read p = ap body (sym p)
shown_body (sequence s) read p = absurd p

-- what follows a section is shorter
pub section_shortens : (bytes rest : List ℕ) (read : SectionRef) → BeginsWithSection bytes read rest → length rest < length bytes
section_shortens bytes rest read begins =
    omega (arith, ap length begins.spelled, length-append (section_bytes begins.section) rest, least_section begins.section begins.is_section)

-- a section of kind 1 has no body
pub took_sequence : (bytes rest after : List ℕ) (place : Option Offsets) (read : SequenceRef) (before old new : Option (List DocumentSequence)) → Took bytes rest place before old → BeginsWithSection rest (Sequence read) after
    → ((s : DocumentSequence) → IsSequence s → ShowsSequence s read → new ≡ copies_with old (s ∷ [])) → Took bytes after place before new
took_sequence bytes rest after place read before old new took begins copied =
    let s = begins.section in
    let none = shown_sequence s read begins.shown in
    record {
      sections = took.sections ++ s ∷ [];
      each = each_joined took.sections (s ∷ []) took.each (begins.is_section, tt);
      long = took.long;
      spelled = one_section_more (drop 4 bytes) rest after took.sections s took.spelled begins.spelled;
      found = subst (λ d. Finds bytes d place) (sym (bodies_joined took.sections (s ∷ []) ∙ ap (λ l. bodies took.sections ++ l) none ∙ append-nil (bodies took.sections))) took.found;
      copied = copied_more took.sections s before old new took.copied (of s begins.is_section begins.shown);
    }
  where
    of : (s : Section) → IsSection s → Shows s (Sequence read) → new ≡ copies_with old (sequences_of (s ∷ []))
    of (body d) is shown = absurd shown
    of (sequence s) is shown = copied s is shown

pub took_body : (bytes rest after : List ℕ) (place : Option Offsets) (read : RawDocument) (now : Offsets) (before copies : Option (List DocumentSequence)) → Took bytes rest place before copies → is_some place ≡ false
    → BeginsWithSection rest (Body read) after → now.body_start ≡ length bytes - length rest + 1 → now.body_end ≡ length bytes - length after → Took bytes after (Some now) before copies
took_body bytes rest after (Some place) read now before copies took none begins start end = absurd (false≢true (sym none))
took_body bytes rest after None read now before copies took none begins start end =
    let d = read.bytes.now in
    let s = begins.section in
    let s_is = shown_body s read begins.shown in
    let flat = flat_map section_bytes took.sections in
    let here : rest ≡ (0 ∷ d) ++ after = begins.spelled ∙ ap (λ z. section_bytes z ++ after) s_is in
    let front = take 4 bytes ++ (flat ++ 0 ∷ []) in
    let sections : drop 4 bytes ≡ (flat ++ 0 ∷ []) ++ (d ++ after) = took.spelled ∙ ap (λ l. flat ++ l) here ∙ sym (append_assoc flat (0 ∷ []) (d ++ after)) in
    let whole : bytes ≡ front ++ (d ++ after) = sym (take-append-drop 4 bytes) ∙ ap (λ l. take 4 bytes ++ l) sections ∙ sym (append_assoc (take 4 bytes) (flat ++ 0 ∷ []) (d ++ after)) in
    let lengths = length-append flat rest in
    let four : length (take 4 bytes) ≡ 4 = length-take-le 4 bytes took.long in
    let size : length front ≡ 5 + length flat = omega (arith, four, length-append (take 4 bytes) (flat ++ 0 ∷ []), length-append flat (0 ∷ [])) in
    let left : length bytes ≡ 4 + (length flat + length rest) = omega (arith, took.long, length-drop 4 bytes, ap length took.spelled, lengths) in
    let more = length-append d after in
    record {
      sections = took.sections ++ s ∷ [];
      each = each_joined took.sections (s ∷ []) took.each (begins.is_section, tt);
      long = took.long;
      spelled = one_section_more (drop 4 bytes) rest after took.sections s took.spelled begins.spelled;
      found = (
        d,
        bodies_joined took.sections (s ∷ []) ∙ ap (λ l. l ++ bodies (s ∷ [])) took.found ∙ ap (λ z. bodies (z ∷ [])) s_is,
        part_at bytes front d after now.body_start now.body_end whole (omega (arith, size, left, start)) (omega (arith, size, left, ap length here, more, end)),
      );
      copied = copied_more took.sections s before copies copies took.copied (copies_none copies ∙ ap (λ z. copies_with copies (sequences_of (z ∷ []))) (sym s_is));
    }

-- ---- bytes that are no sections with one body

too_long : (rest tail : List ℕ) (u : Section) (us : List Section) → IsSection u → rest ≡ flat_map section_bytes (u ∷ us) ++ tail → 6 ≤ length rest
too_long rest tail u us p e =
    omega (arith, ap length e, length-append (section_bytes u ++ flat_map section_bytes us) tail, length-append (section_bytes u) (flat_map section_bytes us), least_section u p)

-- no section stands where one has to
pub no_more_section : (bytes rest : List ℕ) (place : Option Offsets) (before now : Option (List DocumentSequence)) → Took bytes rest place before now → 4 < length rest → HasNoSection rest → HasNoSections (drop 4 bytes)
no_more_section bytes rest place before now took long none sections document tail are =
    let (us, is, each, left) = goes_on took.sections sections rest tail took.each are.each are.short (sym took.spelled ∙ are.spelled) in
    stop us each left
  where
    stop : (us : List Section) → AllByRecursion IsSection us → rest ≡ flat_map section_bytes us ++ tail → ⊥
    stop [] each left = omega (arith, ap length left, are.short, long)
    stop (u ∷ us) each left = none u (flat_map section_bytes us ++ tail) each.0 (left ∙ append_assoc (section_bytes u) (flat_map section_bytes us) tail)

-- documents don't fill the sequence that stands there
pub unfilled : (bytes rest after : List ℕ) (place : Option Offsets) (read : SequenceRef) (before now : Option (List DocumentSequence)) → Took bytes rest place before now → 4 < length rest → SplitsSequenceSection rest read after
    → ¬ (AreDocuments read.documents.now) → HasNoSections (drop 4 bytes)
unfilled bytes rest after place read before now took long splits none =
    no_more_section bytes rest place before now took long (λ s more is spelled. none (splits.filled s more is spelled))

-- a second body
two : (bytes : List ℕ) (documents more : List (List ℕ)) (document : List ℕ) (place : Offsets) → Finds bytes documents (Some place) → length (documents ++ document ∷ more) ≡ 1 → ⊥
two bytes documents more document place found one = omega (arith, length-append documents (document ∷ more), ap length found.1, one)

pub second_body : (bytes rest after : List ℕ) (place : Option Offsets) (read : RawDocument) (before now : Option (List DocumentSequence)) → Took bytes rest place before now → is_some place ≡ true → 4 < length rest → BeginsWithSection rest (Body read) after → HasNoSections (drop 4 bytes)
second_body bytes rest after None read before now took some long begins sections document tail are = absurd (false≢true some)
second_body bytes rest after (Some place) read before now took some long begins sections document tail are =
    let (us, is, each, left) = goes_on took.sections sections rest tail took.each are.each are.short (sym took.spelled ∙ are.spelled) in
    stop us is each left
  where
    stop : (us : List Section) → sections ≡ took.sections ++ us → AllByRecursion IsSection us → rest ≡ flat_map section_bytes us ++ tail → ⊥
    stop [] is each left = omega (arith, ap length left, are.short, long)
    stop (u ∷ us) is each left =
        let one = one_section begins.section u after (flat_map section_bytes us ++ tail) begins.is_section each.0 (sym begins.spelled ∙ left ∙ append_assoc (section_bytes u) (flat_map section_bytes us) tail) in
        let u_is : u ≡ body read.bytes.now = sym one.0 ∙ shown_body begins.section read begins.shown in
        let all : bodies sections ≡ bodies took.sections ++ read.bytes.now ∷ bodies us = ap bodies is ∙ bodies_joined took.sections (u ∷ us) ∙ ap (λ z. bodies took.sections ++ bodies (z ∷ us)) u_is in
        two bytes (bodies took.sections) (bodies us) read.bytes.now place took.found (ap length (sym all ∙ are.one_body))

-- no body
pub no_body : (bytes rest : List ℕ) (place : Option Offsets) (before now : Option (List DocumentSequence)) → Took bytes rest place before now → place ≡ None → length rest ≤ 4 → HasNoSections (drop 4 bytes)
no_body bytes rest (Some place) before now took none short sections document tail are = absurd (false≢true (sym (ap is_some none)))
no_body bytes rest None before now took none short sections document tail are =
    let (us, is, each, left) = goes_on took.sections sections rest tail took.each are.each are.short (sym took.spelled ∙ are.spelled) in
    stop us is each left
  where
    stop : (us : List Section) → sections ≡ took.sections ++ us → AllByRecursion IsSection us → rest ≡ flat_map section_bytes us ++ tail → ⊥
    stop (u ∷ us) is each left = omega (arith, too_long rest tail u us each.0 left, short)
    stop [] is each left =
        let all : bodies sections ≡ [] = ap bodies is ∙ bodies_joined took.sections [] ∙ ap (λ l. l ++ []) took.found in
        omega (arith, ap length (sym all ∙ are.one_body))

-- ---- the whole content

pub no_content : (bytes : List ℕ) → HasNoSections (drop 4 bytes) → HasNoContent bytes
no_content bytes none word sections document tail sum is =
    none sections document tail (record { each = is.each; one_body = is.one_body; spelled = ap (drop 4) is.spelled; short = short_tail word tail sum is.checksum_is })

-- the sections end where the bytes after them begin
pub lies_at : (bytes rest : List ℕ) (now place : Offsets) (before copies : Option (List DocumentSequence)) → Took bytes rest (Some now) before copies → length rest ≤ 4 → place.body_start ≡ now.body_start → place.body_end ≡ now.body_end → place.sections_end ≡ length bytes - length rest
    → LiesAt bytes place
lies_at bytes rest now place before copies took short start end ended =
    let (document, one, at) = took.found in
    record {
      sections = took.sections;
      body = document;
      tail = rest;
      are = record { each = took.each; one_body = one; spelled = took.spelled; short = short };
      body_at = rw (start, end) at;
      ended = omega (arith, took.long, length-drop 4 bytes, ap length took.spelled, length-append (flat_map section_bytes took.sections) rest, ended);
      within = omega (arith, ended);
    }

-- all their sequences were copied
pub copied_all : (bytes rest : List ℕ) (place : Option Offsets) (before now : Option (List DocumentSequence)) → Took bytes rest place before now → length rest ≤ 4 → CopiesSequences bytes before now
copied_all bytes rest place before now took short sections document tail are =
    took.copied ∙ ap (λ ss. copies_with before (sequences_of ss)) (one_sections took.sections sections rest tail took.each are.each short are.short (sym took.spelled ∙ are.spelled)).0

-- the bytes after the sections
tail_is : (bytes tail : List ℕ) (place : Offsets) (lies : LiesAt bytes place) → tail ≡ drop place.sections_end bytes → tail ≡ lies.tail
tail_is bytes tail place lies cut =
    cut ∙ ap (λ n. drop n bytes) (sym lies.ended) ∙ sym (drop-drop (length (flat_map section_bytes lies.sections)) 4 bytes) ∙ ap (drop (length (flat_map section_bytes lies.sections))) lies.are.spelled
    ∙ drop_at (flat_map section_bytes lies.sections) lies.tail (length (flat_map section_bytes lies.sections)) refl

pub content_found : (bytes tail : List ℕ) (place : Offsets) (word : ℕ) (sum : Option ℕ) → IsBytes bytes → 4 ≤ length bytes → LiesAt bytes place → tail ≡ drop place.sections_end bytes
    → IsChecksum word tail sum → word ≡ number_at 0 bytes → IsContentOf bytes word sum place
content_found bytes tail place word sum small long lies cut checksum word_is =
    let front : uint32 word ≡ take 4 bytes = ap uint32 word_is ∙ field 0 bytes small long in
    let all : bytes ≡ uint32 word ++ (flat_map section_bytes lies.sections ++ lies.tail) =
    sym (take-append-drop 4 bytes) ∙ ap (λ l. take 4 bytes ++ l) lies.are.spelled ∙ ap (λ l. l ++ (flat_map section_bytes lies.sections ++ lies.tail)) (sym front) in
    record {
      sections = lies.sections;
      body = lies.body;
      tail = lies.tail;
      is_content = record {
        word_fits = rw word_is (number_fits 0 bytes small);
        each = lies.are.each;
        one_body = lies.are.one_body;
        checksum_is = subst (λ t. IsChecksum word t sum) (tail_is bytes tail place lies cut) checksum;
        spelled = all;
      };
      body_at = lies.body_at;
      sections_at = part_at bytes (uint32 word) (flat_map section_bytes lies.sections) lies.tail 4 place.sections_end all refl lies.ended;
    }

pub no_content_tail : (bytes tail : List ℕ) (place : Offsets) (word : ℕ) → LiesAt bytes place → tail ≡ drop place.sections_end bytes → word ≡ number_at 0 bytes
    → ((sum : Option ℕ) → IsChecksum word tail sum → ⊥) → HasNoContent bytes
no_content_tail bytes tail place word lies cut word_is none other sections document after sum is =
    let same : word ≡ other = word_is ∙ ap (number_at 0) is.spelled ∙ number_at_front (uint32 other) (flat_map section_bytes sections ++ after) (omega arith) ∙ from_le_bytes-to_le_bytes_4 other is.word_fits in
    let both = one_sections sections lies.sections after lies.tail is.each lies.are.each (short_tail other after sum is.checksum_is) lies.are.short (sym (ap (drop 4) is.spelled) ∙ lies.are.spelled) in
    let here : IsChecksum other tail sum = subst (λ t. IsChecksum other t sum) (both.1 ∙ sym (tail_is bytes tail place lies cut)) is.checksum_is in
    none sum (subst (λ w. IsChecksum w tail sum) (sym same) here)
