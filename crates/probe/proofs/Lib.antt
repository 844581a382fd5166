mod Momenta
