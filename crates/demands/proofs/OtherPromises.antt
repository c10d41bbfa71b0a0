-- The relations of specs/OtherPromises.antt are the promises of the public functions, as in Promises.antt; and a caller has
-- nothing to show.
-- Assumes nothing.
use contract.Lifetimes.{Lfts}
use borrow.Fn.Kinds.{Dens, res_t, ended_of}
use denote.Triple.Clauses.{AtExit}
use lib.ListN.{get_or}
use Rattle.layout.proofs.prepare.Kinds as prepare-kinds
use Rattle.layout.proofs.prepare.Reads as prepare
use Rattle.layout.proofs.layout_of.Kinds as layout-kinds
use Rattle.layout.proofs.layout_of.Reads as layout
use Rattle.layout.proofs.root_allowed.Kinds as root-kinds
use Rattle.layout.proofs.root_allowed.Reads as root
use Rattle.header.proofs.read_header.Kinds as header-kinds
use Rattle.header.proofs.read_header.Reads as header
use Rattle.header.proofs.body.Kinds as body-kinds
use Rattle.header.proofs.body.Reads as body
use Rattle.header.proofs.write_header.Kinds as write-kinds
use Rattle.header.proofs.write_header.Reads as write
use Rattle.header.proofs.write_epitaph.Kinds as epitaph-kinds
use Rattle.header.proofs.write_epitaph.Reads as epitaph
use Rattle.text.proofs.judge.Kinds as text-kinds
use Rattle.text.proofs.judge.Reads as text
use Rattle.text.proofs.judge_part.Kinds as part-kinds
use Rattle.text.proofs.judge_part.Reads as part
use Rattle.text.proofs.is_utf8.Kinds as bytes-kinds
use Rattle.text.proofs.is_utf8.Reads as bytes
use Rattle.text.proofs.are_utf8.Kinds as numbers-kinds
use Rattle.text.proofs.are_utf8.Reads as numbers
use Rattle.listing.proofs.listing.Kinds as listing-kinds
use Rattle.listing.proofs.listing.Reads as listing
use Rattle.demands.proofs.round_trip.Kinds as trip-kinds
use Rattle.demands.proofs.round_trip.Reads as trip
use Rattle.demands.specs.OtherPromises.{Prepares, LaysOut, AllowsRoot, ReadsHeader, HandsBody, WritesHeader, WritesEpitaph, JudgesText, JudgesPart, IsText, AreText, Lists, RoundTrips}

module _ (κs : Lfts 5) (a : Dens κs prepare-kinds.ps) where
  pub prepare_asks_nothing : prepare.Asked κs a
  prepare_asks_nothing = tt

  pub prepare_promises : (r : (res_t prepare-kinds.r κs).Denot) (s : AtExit (ended_of 5 prepare-kinds.ps prepare-kinds.r) κs) → prepare.Learnt κs a r s
      → Prepares a.0.now a.1.0.now a.1.1.0.now a.1.1.1.0.now s.1.1.1.0.now a.1.1.1.1.0.now s.1.1.1.1.0.now r
  prepare_promises r s l = record { answer = l.0; sizes_list = l.1.0; alignments_list = l.1.1.0; numbers = l.1.1.1 }

module _ (κs : Lfts 3) (a : Dens κs layout-kinds.ps) where
  pub layout_of_asks_nothing : layout.Asked κs a
  layout_of_asks_nothing = tt

  pub layout_of_promises : (r : (res_t layout-kinds.r κs).Denot) (s : AtExit (ended_of 3 layout-kinds.ps layout-kinds.r) κs) → layout.Learnt κs a r s
      → LaysOut a.0.now a.1.0.now a.1.1.0.now a.1.1.1.0 r
  layout_of_promises r s l = record { answer = l.0; numbers = l.1 }

module _ (κs : Lfts 1) (a : Dens κs root-kinds.ps) where
  pub root_allowed_asks_nothing : root.Asked κs a
  root_allowed_asks_nothing = tt

  pub root_allowed_promises : (r : (res_t root-kinds.r κs).Denot) (s : AtExit (ended_of 1 root-kinds.ps root-kinds.r) κs) → root.Learnt κs a r s
      → AllowsRoot a.0.now a.1.0 r
  root_allowed_promises r s l = record { answer = l }

module _ (κs : Lfts 1) (a : Dens κs header-kinds.ps) where
  pub read_header_asks_nothing : header.Asked κs a
  read_header_asks_nothing = tt

  pub read_header_promises : (r : (res_t header-kinds.r κs).Denot) (s : AtExit (ended_of 1 header-kinds.ps header-kinds.r) κs) → header.Learnt κs a r s
      → ReadsHeader a.0.now r
  read_header_promises r s l = record { answer = l.0; numbers = l.1.0; status = l.1.1 }

module _ (κs : Lfts 1) (a : Dens κs body-kinds.ps) where
  pub body_asks_nothing : body.Asked κs a
  body_asks_nothing = tt

  pub body_promises : (r : (res_t body-kinds.r κs).Denot) (s : AtExit (ended_of 1 body-kinds.ps body-kinds.r) κs) → body.Learnt κs a r s
      → HandsBody a.0.now a.0.ref_ptr r.now r.ref_ptr
  body_promises r s l = record { bytes = l.0; start = l.1 }

module _ (κs : Lfts 1) (a : Dens κs write-kinds.ps) where
  pub write_header_asks_nothing : write.Asked κs a
  write_header_asks_nothing = tt

  pub write_header_promises : (r : (res_t write-kinds.r κs).Denot) (s : AtExit (ended_of 1 write-kinds.ps write-kinds.r) κs) → write.Learnt κs a r s
      → WritesHeader a.0 a.1.0.now s.1.0.now r
  write_header_promises r s l = record { answer = l.0; output = l.1.0; numbers = l.1.1 }

module _ (κs : Lfts 1) (a : Dens κs epitaph-kinds.ps) where
  pub write_epitaph_asks_nothing : epitaph.Asked κs a
  write_epitaph_asks_nothing = tt

  pub write_epitaph_promises : (r : (res_t epitaph-kinds.r κs).Denot) (s : AtExit (ended_of 1 epitaph-kinds.ps epitaph-kinds.r) κs) → epitaph.Learnt κs a r s
      → WritesEpitaph (get_or a.0 0 0) (get_or a.0 1 0) (get_or a.0 2 0) a.1.0 a.1.1.0.now s.1.1.0.now r
  write_epitaph_promises r s l = record { answer = l.0; output = l.1.0; numbers = l.1.1 }

module _ (κs : Lfts 1) (a : Dens κs text-kinds.ps) where
  pub judge_asks_nothing : text.Asked κs a
  judge_asks_nothing = tt

  pub judge_promises : (r : (res_t text-kinds.r κs).Denot) (s : AtExit (ended_of 1 text-kinds.ps text-kinds.r) κs) → text.Learnt κs a r s
      → JudgesText a.0.now r
  judge_promises r s l = record { answer = l.0; numbers = l.1 }

module _ (κs : Lfts 1) (a : Dens κs part-kinds.ps) where
  pub judge_part_asks_nothing : part.Asked κs a
  judge_part_asks_nothing = tt

  pub judge_part_promises : (r : (res_t part-kinds.r κs).Denot) (s : AtExit (ended_of 1 part-kinds.ps part-kinds.r) κs) → part.Learnt κs a r s
      → JudgesPart a.0.now a.1.0 a.1.1.0 r
  judge_part_promises r s l = record { answer = l.0; numbers = l.1 }

module _ (κs : Lfts 1) (a : Dens κs bytes-kinds.ps) where
  pub is_utf8_asks_nothing : bytes.Asked κs a
  is_utf8_asks_nothing = tt

  pub is_utf8_promises : (r : (res_t bytes-kinds.r κs).Denot) (s : AtExit (ended_of 1 bytes-kinds.ps bytes-kinds.r) κs) → bytes.Learnt κs a r s
      → IsText a.0.now a.1.0 a.1.1.0 r
  is_utf8_promises r s l = record { answer = l }

module _ (κs : Lfts 1) (a : Dens κs numbers-kinds.ps) where
  pub are_utf8_asks_nothing : numbers.Asked κs a
  are_utf8_asks_nothing = tt

  pub are_utf8_promises : (r : (res_t numbers-kinds.r κs).Denot) (s : AtExit (ended_of 1 numbers-kinds.ps numbers-kinds.r) κs) → numbers.Learnt κs a r s
      → AreText a.0.now r
  are_utf8_promises r s l = record { answer = l }

module _ (κs : Lfts 2) (a : Dens κs listing-kinds.ps) where
  pub listing_asks_nothing : listing.Asked κs a
  listing_asks_nothing = tt

  pub listing_promises : (r : (res_t listing-kinds.r κs).Denot) (s : AtExit (ended_of 2 listing-kinds.ps listing-kinds.r) κs) → listing.Learnt κs a r s
      → Lists a.0.now a.1.0.now s.1.0.now r
  listing_promises r s l = record { answer = l.0; output = l.1.0 }

module _ (κs : Lfts 6) (a : Dens κs trip-kinds.ps) where
  pub round_trip_asks_nothing : trip.Asked κs a
  round_trip_asks_nothing = tt

  pub round_trip_promises : (r : (res_t trip-kinds.r κs).Denot) (s : AtExit (ended_of 6 trip-kinds.ps trip-kinds.r) κs) → trip.Learnt κs a r s
      → RoundTrips a.0.now a.1.0.now a.1.1.0.now a.1.1.1.0 a.1.1.1.1.0.now a.1.1.1.1.1.0 a.1.1.1.1.1.1.0.now s.1.1.1.1.1.1.0.now
      a.1.1.1.1.1.1.1.0.now s.1.1.1.1.1.1.1.0.now r
  round_trip_promises r s l = record { answer = l.0; values_list = l.1.0; output = l.1.1 }
