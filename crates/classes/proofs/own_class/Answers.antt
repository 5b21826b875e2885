-- The entry of the table at the row's kind and detail is its class, since the test of all entries computes to true.
-- Assumes nothing.
use Rattle.rules.specs.Scan.{lowest}
use Rattle.rules.specs.Class.{detail_allowed, class_of}
use Rattle.rules.proofs.Every.{every}
use Rattle.classes.proofs.Told.{entry-small, entry-class}
use Rattle.classes.proofs.own_class.Goals as goal

pub bounds-kind : goal.bounds-kind
bounds-kind c = (entry-small c.args.rows.now c.args.row.0 (c.requires.1 _ c.requires.0) c.kind-kind.ensures c.detail-detail.ensures).0

pub bounds-detail : goal.bounds-detail
bounds-detail c = (entry-small c.args.rows.now c.args.row.0 (c.requires.1 _ c.requires.0) c.kind-kind.ensures c.detail-detail.ensures).1

pub returns : goal.returns
unfolding every lowest detail_allowed class_of
returns c = rw (entry-class c.args.rows.now c.args.row.0 (c.requires.1 _ c.requires.0) c.kind-kind.ensures c.detail-detail.ensures)
