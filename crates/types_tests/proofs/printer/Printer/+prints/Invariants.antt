use Rattle.types_tests.proofs.printer.Printer.+prints.Given as goal

-- how deep the printers may still call each other
abbrev pub decreases-put : goal.decreases-put
decreases-put l = l.depth

abbrev pub decreases-put_all : goal.decreases-put_all
decreases-put_all l = l.depth

abbrev pub decreases-put_fields : goal.decreases-put_fields
decreases-put_fields l = l.depth

abbrev pub decreases-put_labelled : goal.decreases-put_labelled
decreases-put_labelled l = l.depth

abbrev pub decreases-put_row : goal.decreases-put_row
decreases-put_row l = l.depth

abbrev pub decreases-put_tuple : goal.decreases-put_tuple
decreases-put_tuple l = l.depth
