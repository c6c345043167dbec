-- What the proof of the printing stands on.
mod Printed
