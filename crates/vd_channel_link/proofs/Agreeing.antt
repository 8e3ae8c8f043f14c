-- Two honest ends of a link.
use Rattle.std.proofs.Common.{◌≡◌, ◌∙◌, ◌≤◌, ◌+◌, ℕ, true, false, ◌&&◌, IsTrue, List, [], ◌∷◌, ◌++◌, length, ap, ap₂, sym, refl, subst, arith, append_assoc, length-append}
use Rattle.std.specs.List.{AllByRecursion}
use Rattle.std.proofs.lemmas.Bool.{and_parts}
use Rattle.std.proofs.lemmas.List.{append_cancel_left, take-append-le}
use Rattle.vd_outside.specs.Link.{LinkView}
use Rattle.vd_channel_crypto.specs.Hellos.{digest_between, hello_bytes, link_direction}
use Rattle.vd_channel_crypto.specs.Keys.{direction}
use Rattle.vd_channel_crypto.specs.Records.{Direction, sealed}
use Rattle.vd_channel_crypto.specs.declared.hellos.Hello.{Hello}
use Rattle.vd_channel_crypto.specs.declared.records.Keys.{Keys}
use Rattle.vd_channel_crypto.proofs.Front.{both_ends}
use Rattle.vd_channel_link.specs.Opened.{IsSmall, flat, has_code, has_tag, is_few, plain_of, records}
use Rattle.vd_channel_link.specs.declared.fault.SealFault.{SealFault}
use Rattle.vd_channel_link.specs.declared.fault.SealFault.TheVariants as fault
use Rattle.vd_channel_link.proofs.Beginning.{begins_sealed, long}
use Rattle.vd_channel_link.proofs.Cut.{opened_front}
use Rattle.vd_channel_link.proofs.Walk.{sent}
use Rattle.vd_channel_link.specs.Ends.{AreOfEnds, HonestEndsMeet, said_by}
use Rattle.vd_channel_link.specs.Meeting.{DifferBetween, HaveMet, IsHelloFault, IsMeetFault, IsProofFault, OfHello, OfProof, greeting, head_of}

-- ---- both ends have the same keys

same_keys : (key : List ℕ) (mine theirs : Hello) → AreOfEnds mine theirs
    → link_direction key theirs.from.0 (digest_between mine theirs) ≡ link_direction key theirs.from.0 (digest_between theirs mine)
same_keys key mine theirs ends = ap (link_direction key theirs.from.0) (both_ends mine theirs ends.apart)

-- ---- the hello that is heard is the one that was said

same_front : (a b c d : List ℕ) → length a ≡ length b → a ++ c ≡ b ++ d → (a ≡ b) × (c ≡ d)
same_front [] [] c d len e = (refl, e)
same_front [] (y ∷ b) c d len e = absurd cc
same_front (x ∷ a) [] c d len e = absurd cc
same_front (x ∷ a) (y ∷ b) c d len e =
    let head : x ≡ y = cc in
    let tail : a ++ c ≡ b ++ d = cc in
    let count : length a ≡ length b = cc in
    let rest = same_front a b c d count tail in
    (ap₂ (λ (h : ℕ) (t : List ℕ). h ∷ t) head rest.0, rest.1)

-- a hello but for its nonce, and then the nonce
abbrev pub front_of : Hello → List ℕ
front_of hello = head_of hello.id hello.from.0 hello.to.0

pub hello_parts : (hello : Hello) (rest : List ℕ) → hello_bytes hello ++ rest ≡ front_of hello ++ (hello.nonce ++ rest)
hello_parts hello rest =
    ap (λ (l : List ℕ). (0x47 ∷ 2 ∷ l) ++ rest) (sym (append_assoc hello.id (hello.from.0 ∷ hello.to.0 ∷ []) hello.nonce))
    ∙ ap (λ (l : List ℕ). 0x47 ∷ 2 ∷ l) (append_assoc (hello.id ++ (hello.from.0 ∷ hello.to.0 ∷ [])) hello.nonce rest)

heard_is_said : (mine theirs heard : Hello) (rest more : List ℕ) → AreOfEnds mine theirs → heard.id ≡ mine.id → heard.from ≡ mine.to → heard.to ≡ mine.from
    → length heard.nonce ≡ 32 → hello_bytes heard ++ rest ≡ hello_bytes theirs ++ more → (heard ≡ theirs) × (rest ≡ more)
heard_is_said mine theirs heard rest more ends id from to nonce e =
    let same_id : heard.id ≡ theirs.id = id ∙ sym ends.id_is in
    let same_from : heard.from ≡ theirs.from = from ∙ sym ends.from_is in
    let same_to : heard.to ≡ theirs.to = to ∙ sym ends.to_is in
    let same_head : front_of heard ≡ front_of theirs = λ j. head_of (same_id j) (same_from j).0 (same_to j).0 in
    let behind : heard.nonce ++ rest ≡ theirs.nonce ++ more =
    append_cancel_left (front_of theirs) (heard.nonce ++ rest) (theirs.nonce ++ more)
    (ap (λ (l : List ℕ). l ++ (heard.nonce ++ rest)) (sym same_head) ∙ sym (hello_parts heard rest) ∙ e ∙ hello_parts theirs more) in
    let both = same_front heard.nonce theirs.nonce rest more (nonce ∙ sym ends.nonce) behind in
    (λ j. record { id = same_id j; from = same_from j; to = same_to j; nonce = both.0 j }, both.1)

-- ---- none is refused

not_other : (start end : ℕ) (wanted more : List ℕ) → end ≤ length wanted → DifferBetween start end (wanted ++ more) wanted → ⊥
not_other start end wanted more within differ = differ.other (take-append-le end wanted more within)

hello_good : (wanted nonce more : List ℕ) (why : SealFault) → length wanted ≡ 36 → length nonce ≡ 32 → IsHelloFault wanted (wanted ++ (nonce ++ more)) why → why ≡ fault.Peer
hello_good wanted nonce more fault.Peer size long is = refl
hello_good wanted nonce more fault.End size long is = absurd (omega (arith, is, size, long, length-append wanted (nonce ++ more), length-append nonce more))
hello_good wanted nonce more fault.Version size long is = absurd (not_other 0 2 wanted (nonce ++ more) (omega (arith, size)) is)
hello_good wanted nonce more fault.Dealing size long is = absurd (not_other 2 34 wanted (nonce ++ more) (omega (arith, size)) is)
hello_good wanted nonce more fault.Host size long is = absurd (not_other 34 36 wanted (nonce ++ more) (omega (arith, size)) is)
hello_good wanted nonce more fault.Head size long is = absurd is
hello_good wanted nonce more fault.Code size long is = absurd is

proof_good : (keys : Direction) (more : List ℕ) (why : SealFault) → IsProofFault keys (sealed keys 0 [] ++ more) why → why ≡ fault.Peer
proof_good keys more fault.Peer is = refl
proof_good keys more fault.End is =
    let whole = long keys 0 (sealed keys 0 [] ++ more) (begins_sealed keys 0 [] more (omega arith)) in
    absurd (omega (arith, whole, is))
proof_good keys more fault.Version is = absurd is
proof_good keys more fault.Dealing is = absurd is
proof_good keys more fault.Host is = absurd is
proof_good keys more fault.Head is = absurd (is.other refl)
proof_good keys more fault.Code is =
    let raw = sealed keys 0 [] ++ more in
    let all = and_parts (has_tag raw) (is_few raw && has_code keys 0 raw) (begins_sealed keys 0 [] more (omega arith)) in
    let code = and_parts (is_few raw) (has_code keys 0 raw) all.1 in
    absurd (let both : true ≡ false = sym code.1 ∙ is.2 in cc)

-- what is said, with the hello at its front
abbrev proof_of : (key : List ℕ) → (theirs mine : Hello) → List ℕ
proof_of key theirs mine = sealed (link_direction key theirs.from.0 (digest_between theirs mine)) 0 []

said_parts : (key : List ℕ) (theirs mine : Hello) (pieces : List (List ℕ)) (rest : List ℕ)
    → said_by key theirs mine pieces ++ rest ≡ hello_bytes theirs ++ (proof_of key theirs mine ++ (records (link_direction key theirs.from.0 (digest_between theirs mine)) 1 pieces ++ rest))
said_parts key theirs mine pieces rest =
    let all = records (link_direction key theirs.from.0 (digest_between theirs mine)) 1 pieces in
    append_assoc (greeting key theirs mine) all rest
    ∙ append_assoc (hello_bytes theirs) (proof_of key theirs mine) (all ++ rest)

none_refused : (key : List ℕ) (mine theirs : Hello) (pieces : List (List ℕ)) (rest : List ℕ) (why : SealFault) → AreOfEnds mine theirs
    → IsMeetFault mine key (said_by key theirs mine pieces ++ rest) why → why ≡ fault.Peer
none_refused key mine theirs pieces rest why ends is = by is
  where
    tail : List ℕ
    tail = records (link_direction key theirs.from.0 (digest_between theirs mine)) 1 pieces ++ rest

    by : IsMeetFault mine key (said_by key theirs mine pieces ++ rest) why → why ≡ fault.Peer
    by (OfHello wrong) =
        let same_head : front_of theirs ≡ head_of mine.id mine.to.0 mine.from.0 = λ j. head_of (ends.id_is j) (ends.from_is j).0 (ends.to_is j).0 in
        let whole : said_by key theirs mine pieces ++ rest ≡ head_of mine.id mine.to.0 mine.from.0 ++ (theirs.nonce ++ (proof_of key theirs mine ++ tail)) =
        said_parts key theirs mine pieces rest ∙ hello_parts theirs (proof_of key theirs mine ++ tail)
        ∙ ap (λ (l : List ℕ). l ++ (theirs.nonce ++ (proof_of key theirs mine ++ tail))) same_head in
        let size : length (head_of mine.id mine.to.0 mine.from.0) ≡ 36 = omega (arith, ends.long, length-append mine.id (mine.to.0 ∷ mine.from.0 ∷ [])) in
        hello_good (head_of mine.id mine.to.0 mine.from.0) theirs.nonce (proof_of key theirs mine ++ tail) why size ends.nonce
        (subst (λ (l : List ℕ). IsHelloFault (head_of mine.id mine.to.0 mine.from.0) l why) whole wrong)
    by (OfProof heard behind is_heard wrong) =
        let said = heard_is_said mine theirs heard behind (proof_of key theirs mine ++ tail) ends is_heard.id_is is_heard.from_is is_heard.to_is is_heard.nonce
        (sym is_heard.came ∙ said_parts key theirs mine pieces rest) in
        let keys = link_direction key theirs.from.0 (digest_between theirs mine) in
        let same : link_direction key heard.from.0 (digest_between mine heard) ≡ keys =
        ap (λ (h : Hello). link_direction key h.from.0 (digest_between mine h)) said.0 ∙ same_keys key mine theirs ends in
        proof_good keys tail why
        (subst (λ (l : List ℕ). IsProofFault keys l why) said.1 (subst (λ (d : Direction). IsProofFault d behind why) same wrong))

-- ---- and what was written is read

read : (key : List ℕ) (mine theirs : Hello) (before now : LinkView) (keys : Keys × Keys) (pieces : List (List ℕ)) (rest : List ℕ) → AreOfEnds mine theirs
    → HaveMet mine key before now keys → IsTrue now.told → before.coming ≡ said_by key theirs mine pieces ++ rest → AllByRecursion IsSmall pieces
    → plain_of (direction keys.1) 1 now.coming ≡ flat pieces ++ plain_of (direction keys.1) (1 + length pieces) rest
read key mine theirs before now keys pieces rest ends met told came small =
    let theirs_keys = link_direction key theirs.from.0 (digest_between theirs mine) in
    let tail = records theirs_keys 1 pieces ++ rest in
    let said = heard_is_said mine theirs met.theirs (sealed (direction keys.1) 0 [] ++ now.coming) (proof_of key theirs mine ++ tail) ends met.id_is met.from_is met.to_is met.nonce
    (sym (met.came told) ∙ came ∙ said_parts key theirs mine pieces rest) in
    let same : direction keys.1 ≡ theirs_keys =
    met.other_key ∙ ap (λ (h : Hello). link_direction key h.from.0 (digest_between mine h)) said.0 ∙ same_keys key mine theirs ends in
    let behind : now.coming ≡ tail =
    append_cancel_left (sealed theirs_keys 0 []) now.coming tail (ap (λ (d : Direction). sealed d 0 [] ++ now.coming) (sym same) ∙ said.1) in
    subst (λ (d : Direction). plain_of d 1 now.coming ≡ flat pieces ++ plain_of d (1 + length pieces) rest) (sym same)
    (ap (plain_of theirs_keys 1) behind ∙ sent theirs_keys 1 pieces rest small)

read_front : (key : List ℕ) (mine theirs : Hello) (before now : LinkView) (keys : Keys × Keys) (pieces : List (List ℕ)) (rest : List ℕ) → AreOfEnds mine theirs
    → HaveMet mine key before now keys → IsTrue now.told → before.coming ++ rest ≡ said_by key theirs mine pieces → AllByRecursion IsSmall pieces
    → (left : List ℕ) × (plain_of (direction keys.1) 1 now.coming ++ left ≡ flat pieces)
read_front key mine theirs before now keys pieces rest ends met told came small =
    let theirs_keys = link_direction key theirs.from.0 (digest_between theirs mine) in
    let all = records theirs_keys 1 pieces in
    let first = sealed (direction keys.1) 0 [] in
    let heard : hello_bytes met.theirs ++ ((first ++ now.coming) ++ rest) ≡ hello_bytes theirs ++ (proof_of key theirs mine ++ all) =
    sym (append_assoc (hello_bytes met.theirs) (first ++ now.coming) rest) ∙ ap (λ (l : List ℕ). l ++ rest) (sym (met.came told)) ∙ came
    ∙ append_assoc (hello_bytes theirs) (proof_of key theirs mine) all in
    let said = heard_is_said mine theirs met.theirs ((first ++ now.coming) ++ rest) (proof_of key theirs mine ++ all) ends met.id_is met.from_is met.to_is met.nonce heard in
    let same : direction keys.1 ≡ theirs_keys =
    met.other_key ∙ ap (λ (h : Hello). link_direction key h.from.0 (digest_between mine h)) said.0 ∙ same_keys key mine theirs ends in
    let behind : now.coming ++ rest ≡ all =
    append_cancel_left (sealed theirs_keys 0 []) (now.coming ++ rest) all
    (ap (λ (d : Direction). sealed d 0 [] ++ (now.coming ++ rest)) (sym same) ∙ sym (append_assoc first now.coming rest) ∙ said.1) in
    subst (λ (d : Direction). (left : List ℕ) × (plain_of d 1 now.coming ++ left ≡ flat pieces)) (sym same) (opened_front theirs_keys 1 pieces now.coming rest small behind)

pub ends_meet : HonestEndsMeet
ends_meet = record { none_refused = none_refused; read = read; read_front = read_front }
