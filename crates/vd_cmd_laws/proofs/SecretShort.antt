-- How long the text of a deal of version 2 is.
use Rattle.std.proofs.Common.{◌≡◌, ℕ, suc, ◌+◌, ◌*◌, ◌<◌, ◌≤◌, ◌^◌, List, [], ◌∷◌, ◌++◌, length, lit≤, arith, length-append}
use Rattle.std.specs.Prelude.{codes}
use Rattle.std.specs.List.{All, AllByRecursion}
use Rattle.std.proofs.lemmas.List.Elements.{All-from_recursion, All-head, All-tail}
use Rattle.vd_base.specs.Limits.{most_deal_items}
use Rattle.vd_base_codec.specs.Reading.{field}
use Rattle.vd_tape.specs.declared.deal_items.items.PairItem.{PairItem}
use Rattle.vd_tape.specs.declared.deal_items.items.Triple.{Triple}
use Rattle.vd_tape.specs.Validity.{ArePairWords, AreTripleWords, AreWithin, peer_at}
use Rattle.vd_base_codec.specs.Digits.{IsByte, IsKey, hex_byte, key_text}
use Rattle.vd_channel_crypto.specs.declared.deal_keys.secrets.LinkKey.{LinkKey}
use Rattle.vd_tape.specs.Text.{list_text, share_text}
use Rattle.vd_deal_versions.specs.Text.{body_text, front_text, link_text, linked_text, sum_line}
use Rattle.vd_deal_versions.proofs.Front.{sum_long}
use Rattle.vd_cmd_laws.specs.KeyedDealt.{SecretTextsAreShort}
use Rattle.vd_cmd_laws.proofs.CmdDealLawsShort.{both_short, field_short, items_short, own_short, pairs_short, peer_low, share_short, triples_short}

byte_short : (b : ℕ) → IsByte b → length (hex_byte b) ≤ 2
unfolding hex_byte
byte_short b is = lit≤ tt

key_short : (key : List ℕ) → IsKey key → length (key_text key) ≤ 64
key_short key is =
    let digits = items_short hex_byte IsByte 2 byte_short key (All-from_recursion IsByte key is.1) in
    let size = is.0 in
    omega (arith, digits, size)

-- the line of a key
link_short : (peer : ℕ) (link : LinkKey) → peer < 2 ^ 32 → IsKey link.0 → length (link_text peer link) ≤ 81
link_short peer link low is =
    let key : List ℕ = key_text link.0 in
    both_short (codes "link") (field peer ++ (32 ∷ (key ++ 10 ∷ []))) 4 77 (lit≤ tt)
    (both_short (field peer) (32 ∷ (key ++ 10 ∷ [])) 11 66 (field_short peer low)
    (both_short (32 ∷ []) (key ++ 10 ∷ []) 1 65 (lit≤ tt) (both_short key (10 ∷ []) 64 1 (key_short link.0 is) (lit≤ tt))))

next_peer : (whole first inner share rest count : ℕ) → whole ≡ first + inner → inner ≡ share + rest → first ≤ 81 → share ≤ 92274767 → rest ≤ 92274848 * count → whole ≤ 92274848 * suc count
next_peer whole first inner share rest count is inner_is one two more = omega (arith, is, inner_is, one, two, more)

-- the lines of all peers from a place on
linked_short : (me place : ℕ) (links : List LinkKey) (ts bs : List (List Triple)) (ps : List (List PairItem)) → me < 4 → place + length links ≤ 4 → AllByRecursion (λ (link : LinkKey). IsKey link.0) links
    → All (All AreTripleWords) ts → All (All AreTripleWords) bs → All (All ArePairWords) ps → AreWithin ts → AreWithin bs → AreWithin ps → length (linked_text me place links ts bs ps) ≤ 92274848 * length links
unfolding linked_text
linked_short me place [] ts bs ps low most keys t b p tw bw pw = omega arith
linked_short me place (link ∷ links) [] bs ps low most keys t b p tw bw pw = omega arith
linked_short me place (link ∷ links) (ts ∷ more) [] ps low most keys t b p tw bw pw = omega arith
linked_short me place (link ∷ links) (ts ∷ more) (bs ∷ bits) [] low most keys t b p tw bw pw = omega arith
linked_short me place (link ∷ links) (ts ∷ more) (bs ∷ bits) (ps ∷ pairs) low most keys t b p tw bw pw =
    let peer : ℕ = peer_at me place in
    let peer_is_low : peer < 2 ^ 32 = peer_low me place low (omega (arith, most)) in
    let first = link_short peer link peer_is_low keys.0 in
    let share = share_short peer ts bs ps peer_is_low
    (triples_short ts (All-head (All AreTripleWords) ts more t) (All-head (λ (items : List Triple). length items ≤ most_deal_items) ts more tw))
    (triples_short bs (All-head (All AreTripleWords) bs bits b) (All-head (λ (items : List Triple). length items ≤ most_deal_items) bs bits bw))
    (pairs_short ps (All-head (All ArePairWords) ps pairs p) (All-head (λ (items : List PairItem). length items ≤ most_deal_items) ps pairs pw)) in
    let rest = linked_short me (place + 1) links more bits pairs low (omega (arith, most)) keys.1 (All-tail (All AreTripleWords) ts more t) (All-tail (All AreTripleWords) bs bits b) (All-tail (All ArePairWords) ps pairs p)
    (All-tail (λ (items : List Triple). length items ≤ most_deal_items) ts more tw) (All-tail (λ (items : List Triple). length items ≤ most_deal_items) bs bits bw)
    (All-tail (λ (items : List PairItem). length items ≤ most_deal_items) ps pairs pw) in
    next_peer _ (length (link_text peer link)) (length (share_text peer ts bs ps ++ linked_text me (place + 1) links more bits pairs)) (length (share_text peer ts bs ps)) (length (linked_text me (place + 1) links more bits pairs)) (length links)
    (length-append (link_text peer link) (share_text peer ts bs ps ++ linked_text me (place + 1) links more bits pairs)) (length-append (share_text peer ts bs ps) (linked_text me (place + 1) links more bits pairs)) first share rest

pub secret_texts_are_short : SecretTextsAreShort
secret_texts_are_short hosts me x of =
    let is = of.0.is in
    let few = is.few in
    let own_number = is.own_number in
    let hosts_are = of.0.hosts_are in
    let peers = of.1.each_peer in
    let me_low : x.deal.me.0 < 4 = omega (arith, few, own_number) in
    let links = linked_short x.deal.me.0 0 x.secrets.links x.deal.triples x.deal.bits x.deal.pairs me_low (omega (arith, peers, few, hosts_are)) of.1.keys of.0.words.triples of.0.words.bits of.0.words.pairs is.triples_within is.bits_within is.pairs_within in
    let linked : length (linked_text x.deal.me.0 0 x.secrets.links x.deal.triples x.deal.bits x.deal.pairs) ≤ 276824544 = omega (arith, links, peers, few, hosts_are) in
    let lists : List ℕ = list_text field x.deal.own in
    let id : List ℕ = key_text x.secrets.id in
    let front : length (front_text x.deal x.secrets) ≤ 11534442 =
    both_short (field x.deal.hosts) (field x.deal.me.0 ++ (codes "\nid " ++ (id ++ (codes "\nown" ++ lists)))) 11 11534431 (field_short x.deal.hosts (omega (arith, few)))
    (both_short (field x.deal.me.0) (codes "\nid " ++ (id ++ (codes "\nown" ++ lists))) 11 11534420 (field_short x.deal.me.0 (omega (arith, me_low)))
    (both_short (codes "\nid ") (id ++ (codes "\nown" ++ lists)) 4 11534416 (lit≤ tt)
    (both_short id (codes "\nown" ++ lists) 64 11534352 (key_short x.secrets.id of.1.id)
    (both_short (codes "\nown") lists 4 11534348 (lit≤ tt) (own_short x.deal.own of.0.words.own is.own))))) in
    let whole = both_short (codes "viaduct-deal 2") (front_text x.deal x.secrets ++ linked_text x.deal.me.0 0 x.secrets.links x.deal.triples x.deal.bits x.deal.pairs) 14 288358986 (lit≤ tt)
    (both_short (front_text x.deal x.secrets) (linked_text x.deal.me.0 0 x.secrets.links x.deal.triples x.deal.bits x.deal.pairs) 11534442 276824544 front linked) in
    let body : List ℕ = body_text x in
    let line = sum_long body in
    let all = length-append body (sum_line body) in
    omega (arith, whole, line, all)
