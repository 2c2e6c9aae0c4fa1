use Rattle.types_tests.proofs.reader.Reader.+reads.Given as goal

-- how deep the readers may still call each other
abbrev pub decreases-arrow : goal.decreases-arrow
decreases-arrow l = l.depth

abbrev pub decreases-braces : goal.decreases-braces
decreases-braces l = l.depth

abbrev pub decreases-brackets : goal.decreases-brackets
decreases-brackets l = l.depth

abbrev pub decreases-call : goal.decreases-call
decreases-call l = l.depth

abbrev pub decreases-part : goal.decreases-part
decreases-part l = l.depth

abbrev pub decreases-put_arguments : goal.decreases-put_arguments
decreases-put_arguments l = l.depth

abbrev pub decreases-put_fields : goal.decreases-put_fields
decreases-put_fields l = l.depth

abbrev pub decreases-put_parts : goal.decreases-put_parts
decreases-put_parts l = l.depth
