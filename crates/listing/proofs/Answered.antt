-- What the reader's answer, and the lists that it leaves, show of the listing.
-- Assumes nothing.
use Rattle.std.specs.Prelude.{Ok, Err}
use mathlib.Core.Path.{◌≡◌, sym, ap, ◌∙◌}
use mathlib.Core.List.{List, append-nil}
use Prim.Native.Nat.{ℕ, ◌≤◌, ◌<◌}
use native.Mathlib.Omega.{arith}
use borrow.Author.Tests.{le-leb, lt-leb}
use lib.ListN.{length, take, length-append}
use lib.Seq.{sets, take-append_seam, length-take-le}
use Rattle.rules.specs.declared.Fault.{Fault}
use Rattle.rules.specs.declared.Place.TheVariants.{Byte}
use Rattle.rules.specs.Refusals.{fault, place_number, Answer, accepted, refused, lent_after}
use Rattle.rules.specs.Answers.{Lists, read, answer_of}
use Rattle.reader.specs.declared.Lengths.{Lengths}
use Rattle.reader.specs.Answers.{lengths_of, values_in, objects_in}
use Rattle.listing.specs.Lines.{largest, Puts}
use Rattle.listing.specs.Listing.{message_of, answered, head, body, listing_of, listing}
use Rattle.listing.proofs.Putting.{puts_then}
use Rattle.listing.proofs.Enough.{enough}

-- The lists of an accepted message stand at the start of those that were lent.
pub record Listed (answer : Answer Lists) (l : Lengths) (values' objects' : List ℕ) : Type 0 where
  pub lists : answer ≡ accepted (record { values = take l.values values'; objects = take l.objects objects' })
  pub values_within : l.values ≤ length values'
  pub objects_within : l.objects ≤ length objects'

pub listed :
    (given : Answer Lists) (values objects : List ℕ) {values' objects' : List ℕ} {l : Lengths} →
    answer_of (Ok l) ≡ lengths_of given → values' ≡ lent_after (values_in given) values → objects' ≡ lent_after (objects_in given) objects →
    Listed given l values' objects'
listed (accepted lists) values objects {l = l} says values-are objects-are =
    let lengths : l ≡ record { values = length lists.values; objects = length lists.objects } = cc in
    record {
      lists = rw (lengths, values-are, objects-are, take-append_seam, take-append_seam);
      values_within = rw (lengths, values-are, length-append) (omega arith);
      objects_within = rw (lengths, objects-are, length-append) (omega arith);
    }
listed (refused f) values objects says values-are objects-are = let z : ◌≡◌ {A = ℕ} 0 1 = cc in absurd (omega arith)

-- The parts of the lists that are listed: as many numbers as are told, and no more than there is room for.
pub record Parts (l : Lengths) (values' objects' : List ℕ) : Type 0 where
  pub objects : l.objects ≡ length (take l.objects objects')
  pub values : l.values ≡ length (take l.values values')
  pub few_objects : l.objects ≤ 8196
  pub few_values : l.values ≤ 8196

pub parts : {answer : Answer Lists} {l : Lengths} {values' objects' : List ℕ}
    → Listed answer l values' objects' → 8196 ≡ length values' → 8196 ≡ length objects' → Parts l values' objects'
parts {l = l} {values'} {objects'} lists v o = record {
  objects = sym (length-take-le l.objects objects' lists.objects_within);
  values = sym (length-take-le l.values values' lists.values_within);
  few_objects = omega (arith, lists.objects_within);
  few_values = omega (arith, lists.values_within);
}

refused_answer : (given : Answer Lists) {f : Fault} → answer_of (Err f) ≡ lengths_of given → given ≡ refused f
refused_answer (accepted lists) says = let z : ◌≡◌ {A = ℕ} 0 1 = cc in absurd (omega arith)
refused_answer (refused g) says = cc

-- ---- the listing

-- What the listing of a message promises of the output.
abbrev Whole : (bytes out : List ℕ) (r : ℕ) (after : List ℕ) → Type 0
Whole bytes out r after = record { count : r ≡ length (listing bytes); text : after ≡ sets out 0 (listing bytes); room : r ≤ largest }

whole : (bytes : List ℕ) {out after : List ℕ} {r most : ℕ} {text : List ℕ}
    → listing bytes ≡ text → most ≤ largest → Puts out 0 text most r after → Whole bytes out r after
whole bytes is short put = record { count = rw is (omega (arith, put.ends)); text = rw is put.stored; room = omega (arith, put.within) }

-- by what the rules answer
listing_is : (bytes : List ℕ) {answer : Answer Lists} → answered bytes ≡ answer → listing bytes ≡ listing_of (length bytes) answer
unfolding listing
listing_is bytes is = ap (listing_of (length bytes)) is

pub too_long : (bytes : List ℕ) {out after : List ℕ} {r : ℕ}
    → 8192 < length bytes → Puts out 0 (head 3 0) 55 r after → Whole bytes out r after
too_long bytes long put =
    let e : answered bytes ≡ refused (fault 3 (Byte 0)) = simp (lt-leb _ _ long) in
    whole bytes (listing_is bytes e ∙ append-nil _) (omega arith) put

-- the reader's answer is the rules': there is room enough
abbrev pub Lent : (values objects : List ℕ) → Type 0
Lent values objects = (8196 ≡ length values) × (8196 ≡ length objects)

answered_is : (bytes values objects : List ℕ) → length bytes ≤ 8192 → Lent values objects
    → answered bytes ≡ read (message_of bytes) 4 (length values) (length objects)
answered_is bytes values objects short lent =
    simp (le-leb _ _ short) (sym (enough (message_of bytes) 4 (length values) (length objects) (omega arith) (omega arith)))

module _ (bytes values objects : List ℕ) (short : length bytes ≤ 8192) (lent : Lent values objects) where
  pub listing_refused : {f : Fault} {out after : List ℕ} {r : ℕ}
      → answer_of (Err f) ≡ lengths_of (read (message_of bytes) 4 (length values) (length objects))
      → Puts out 0 (head f.number (place_number f.place)) 55 r after → Whole bytes out r after
  listing_refused says put =
      let e = answered_is bytes values objects short lent ∙ refused_answer _ says in
      whole bytes (listing_is bytes e ∙ append-nil _) (omega arith) put

  pub listing_accepted : {l : Lengths} {values' objects' out mid after : List ℕ} {next r most : ℕ}
      → Listed (read (message_of bytes) 4 (length values) (length objects)) l values' objects' → most ≤ 524233
      → Puts out 0 (head 0 0) 55 next mid
      → Puts mid next (body (length bytes) (record { values = take l.values values'; objects = take l.objects objects' })) most r after
      → Whole bytes out r after
  listing_accepted lists few head-put lists-put =
      let e = answered_is bytes values objects short lent ∙ lists.lists in
      whole bytes (listing_is bytes e) (omega arith) (puts_then head-put lists-put)
