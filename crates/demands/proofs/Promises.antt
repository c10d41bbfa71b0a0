-- The relations of specs/Promises.antt are the promises of the public functions: what a function's contract hands to a caller
-- (`Learnt`) is that relation of what the arguments hold before and after; and a caller has nothing to show (`Asked`).
-- Assumes nothing.
use contract.Lifetimes.{Lfts}
use borrow.Fn.Kinds.{Dens, res_t, ended_of}
use denote.Triple.Clauses.{AtExit}
use Rattle.reader.proofs.check.Kinds as check-kinds
use Rattle.reader.proofs.check.Reads as check
use Rattle.reader.proofs.read_values.Kinds as values-kinds
use Rattle.reader.proofs.read_values.Reads as values
use Rattle.reader.proofs.read_objects.Kinds as objects-kinds
use Rattle.reader.proofs.read_objects.Reads as objects
use Rattle.reader.proofs.read.Kinds as read-kinds
use Rattle.reader.proofs.read.Reads as read
use Rattle.writer.proofs.write.Kinds as write-kinds
use Rattle.writer.proofs.write.Reads as write
use Rattle.demands.specs.Promises.{Checks, ReadsValues, ReadsObjects, Reads, Writes}

module _ (κs : Lfts 4) (a : Dens κs check-kinds.ps) where
  pub check_asks_nothing : check.Asked κs a
  check_asks_nothing = tt

  pub check_promises : (r : (res_t check-kinds.r κs).Denot) (s : AtExit (ended_of 4 check-kinds.ps check-kinds.r) κs) → check.Learnt κs a r s
      → Checks a.0.now a.1.0.now a.1.1.0.now a.1.1.1.0 a.1.1.1.1.0.now a.1.1.1.1.1.0 r
  check_promises r s l = record { answer = l.0; numbers = l.1 }

module _ (κs : Lfts 5) (a : Dens κs values-kinds.ps) where
  pub read_values_asks_nothing : values.Asked κs a
  read_values_asks_nothing = tt

  pub read_values_promises : (r : (res_t values-kinds.r κs).Denot) (s : AtExit (ended_of 5 values-kinds.ps values-kinds.r) κs) → values.Learnt κs a r s
      → ReadsValues a.0.now a.1.0.now a.1.1.0.now a.1.1.1.0 a.1.1.1.1.0.now a.1.1.1.1.1.0 a.1.1.1.1.1.1.0.now s.1.1.1.1.1.1.0.now r
  read_values_promises r s l = record { answer = l.0; list = l.1.0; numbers = l.1.1 }

module _ (κs : Lfts 5) (a : Dens κs objects-kinds.ps) where
  pub read_objects_asks_nothing : objects.Asked κs a
  read_objects_asks_nothing = tt

  pub read_objects_promises : (r : (res_t objects-kinds.r κs).Denot) (s : AtExit (ended_of 5 objects-kinds.ps objects-kinds.r) κs) → objects.Learnt κs a r s
      → ReadsObjects a.0.now a.1.0.now a.1.1.0.now a.1.1.1.0 a.1.1.1.1.0.now a.1.1.1.1.1.0 a.1.1.1.1.1.1.0.now s.1.1.1.1.1.1.0.now r
  read_objects_promises r s l = record { answer = l.0; list = l.1.0; numbers = l.1.1 }

module _ (κs : Lfts 6) (a : Dens κs read-kinds.ps) where
  pub read_asks_nothing : read.Asked κs a
  read_asks_nothing = tt

  pub read_promises : (r : (res_t read-kinds.r κs).Denot) (s : AtExit (ended_of 6 read-kinds.ps read-kinds.r) κs) → read.Learnt κs a r s
      → Reads a.0.now a.1.0.now a.1.1.0.now a.1.1.1.0 a.1.1.1.1.0.now a.1.1.1.1.1.0 a.1.1.1.1.1.1.0.now s.1.1.1.1.1.1.0.now
      a.1.1.1.1.1.1.1.0.now s.1.1.1.1.1.1.1.0.now r
  read_promises r s l = record { answer = l.0; values_list = l.1.0; objects_list = l.1.1.0; numbers = l.1.1.1 }

module _ (κs : Lfts 5) (a : Dens κs write-kinds.ps) where
  pub write_asks_nothing : write.Asked κs a
  write_asks_nothing = tt

  pub write_promises : (r : (res_t write-kinds.r κs).Denot) (s : AtExit (ended_of 5 write-kinds.ps write-kinds.r) κs) → write.Learnt κs a r s
      → Writes a.0.now a.1.0.now a.1.1.0.now a.1.1.1.0 a.1.1.1.1.0.now a.1.1.1.1.1.0.now s.1.1.1.1.1.0.now r
  write_promises r s l = record { answer = l.0; output = l.1.0; numbers = l.1.1 }
